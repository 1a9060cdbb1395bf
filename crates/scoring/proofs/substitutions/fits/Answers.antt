use Rattle.std.proofs.Common.{◌∙◌}
use Rattle.scoring.proofs.Steps.{counts_own, legal_when}
use Rattle.scoring.proofs.substitutions.fits.Goals as goal

pub after-counts-requires-clause-counted : goal.after-counts-requires-clause-counted
after-counts-requires-clause-counted c =
    counts_own c.args.team.now c.args.figures.now c.args.n c.args.progress.now c.requires.low c.requires.high c.requires.standing

pub returns : goal.returns
returns c =
    c.formation_ok.ensures.value
    ∙ legal_when c.args.team.now c.args.figures.now c.args.n c.args.progress.now c.args.bench c.after-counts.result c.requires.low c.requires.high c.requires.standing c.after-counts.ensures
