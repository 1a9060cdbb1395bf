use Rattle.std.proofs.Common.{◌+◌, ◌-◌, arith}
use Rattle.season_graph.proofs.PartFacts.{in_range, past_range}
use Rattle.season_graph.proofs.parts.round_at.Goals as goal

pub returns-then-from-last-clause-value : goal.returns-then-from-last-clause-value
returns-then-from-last-clause-value c =
    let last = c.args.books.now.calendar.now.locked in
    past_range c.args.from ((last + 1) - c.args.from) c.args.place (omega (arith, c.locked.ensures.value, c.from-last.ensures, c.if-from-last.true))

pub returns-then-place-last-clause-value : goal.returns-then-place-last-clause-value
returns-then-place-last-clause-value c =
    let last = c.args.books.now.calendar.now.locked in
    past_range c.args.from ((last + 1) - c.args.from) c.args.place (omega (arith, c.locked.ensures.value, c.from-last.ensures, c.if-from-last.false, c.if-place-last.true))

pub returns-clause-value : goal.returns-clause-value
returns-clause-value c =
    let last = c.args.books.now.calendar.now.locked in
    in_range c.args.from ((last + 1) - c.args.from) c.args.place (omega (arith, c.locked.ensures.value, c.from-last.ensures, c.if-from-last.false, c.if-place-last.false))
