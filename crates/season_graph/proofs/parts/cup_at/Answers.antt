use Rattle.std.proofs.Common.{length, arith}
use Rattle.season_graph.proofs.PartFacts.{id_at, past_range}
use Rattle.season_graph.proofs.parts.cup_at.Goals as goal

pub returns-then-place-count : goal.returns-then-place-count
returns-then-place-count c = past_range 1 (length c.args.books.now.cups.now) c.args.place (omega (arith, c.count.ensures.count, c.if-place-count.true))

pub returns : goal.returns
returns c = id_at c.new.result (length c.args.books.now.cups.now) c.args.place c.new.ensures.there c.new.ensures.value (omega (arith, c.count.ensures.count, c.if-place-count.false))
