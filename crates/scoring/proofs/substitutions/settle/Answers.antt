use Rattle.std.proofs.Common.{sym, ◌∙◌}
use Rattle.scoring.proofs.Steps.{stays_on, counts_own, present_settles, alone_settles, replaced_on}
use Rattle.scoring.proofs.substitutions.settle.Goals as goal

pub returns-then-played : goal.returns-then-played
returns-then-played c =
    stays_on c.args.team.now c.args.figures.now c.args.n c.args.progress.now c.requires.low c.requires.high c.requires.standing
    (present_settles c.args.team.now c.args.figures.now c.args.n c.args.progress.now c.requires.low c.requires.high c.requires.standing (sym c.played.ensures ∙ c.if-played.true))

pub replace-requires-clause-counted : goal.replace-requires-clause-counted
replace-requires-clause-counted c =
    counts_own c.args.team.now c.args.figures.now c.args.n c.args.progress.now c.requires.low c.requires.high c.requires.standing

pub returns-in-Some : goal.returns-in-Some
returns-in-Some c =
    replaced_on c.args.team.now c.args.figures.now c.args.n c.in-Some.bench c.args.progress.now c.replace.new.progress c.requires.low c.requires.high c.in-Some.ensures.range.0 c.in-Some.ensures.range.1 c.requires.standing (sym c.played.ensures ∙ c.if-played.false) c.in-Some.ensures.first
    c.replace.ensures.slots c.replace.ensures.used c.replace.ensures.counts

pub returns-in-None : goal.returns-in-None
returns-in-None c =
    stays_on c.args.team.now c.args.figures.now c.args.n c.args.progress.now c.requires.low c.requires.high c.requires.standing
    (alone_settles c.args.team.now c.args.figures.now c.args.n c.args.progress.now c.requires.low c.requires.high c.requires.standing (sym c.played.ensures ∙ c.if-played.false) c.in-None.ensures.first)
