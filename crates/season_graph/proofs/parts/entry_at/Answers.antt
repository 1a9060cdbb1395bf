use Rattle.std.proofs.Common.{length, arith}
use Rattle.season_graph.proofs.PartFacts.{id_at, past_range}
use Rattle.season_graph.proofs.parts.entry_at.Goals as goal

pub returns-then-place-entries : goal.returns-then-place-entries
returns-then-place-entries c = past_range 1 (length c.args.books.now.managers.now.managers) c.args.place (omega (arith, c.entries.ensures.count, c.if-place-entries.true))

pub returns : goal.returns
returns c = id_at c.new.result (length c.args.books.now.managers.now.managers) c.args.place c.new.ensures.there c.new.ensures.value (omega (arith, c.entries.ensures.count, c.if-place-entries.false))
