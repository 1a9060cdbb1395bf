use Rattle.std.proofs.Common.{sym, ◌∙◌}
use Rattle.scoring.proofs.Steps.{stand_when}
use Rattle.scoring.proofs.substitutions.stands.Goals as goal

pub returns : goal.returns
returns c =
    c.fits.ensures
    ∙ stand_when c.args.team.now c.args.figures.now c.args.n c.args.progress.now c.args.bench c.requires.from c.requires.to c.requires.standing (sym c.played.ensures ∙ c.if-not-played.false) (sym c.is_marked.ensures ∙ c.if-is_marked.false)
