use Rattle.std.proofs.Common.{arith}
use Rattle.season_nodes.specs.BookFacts.{facts_of}
use Rattle.season_graph.proofs.IndexingFacts.{gameweeks_more, gameweeks_none, gameweeks_whole}
use Rattle.season_graph.proofs.indexing.index_entry.Goals as goal

pub loop-number-init : goal.loop-number-init
loop-number-init c = gameweeks_none (facts_of c.args.books.now) c.args.index.now c.args.entry c.args.first

pub loop-number-preserved : goal.loop-number-preserved
loop-number-preserved c = gameweeks_more (facts_of c.args.books.now) c.args.index.now c.loop-number.index c.index_numbered.new.index c.args.entry c.args.first c.loop-number.number c.loop-number.invariant c.in_ok-index_numbered.ensures

pub returns : goal.returns
returns c = gameweeks_whole (facts_of c.args.books.now) c.args.index.now c.loop-number.index c.args.entry c.args.first c.loop-number.number (omega (arith, c.saturating_sub-number-end.ensures, c.locked.ensures.value, c.loop-number-test.false)) c.loop-number.invariant
