use Rattle.std.proofs.Common.{◌≤◌, subst}
use Rattle.season_nodes.specs.BookFacts.{facts_of}
use Rattle.season_graph.proofs.IndexingFacts.{entries_more, entries_none, entries_whole}
use Rattle.season_graph.proofs.indexing.index_gameweeks.Goals as goal

pub loop-number-init : goal.loop-number-init
loop-number-init c = entries_none (facts_of c.args.books.now) c.args.index.now c.args.first

pub loop-number-preserved : goal.loop-number-preserved
loop-number-preserved c = entries_more (facts_of c.args.books.now) c.args.index.now c.loop-number.index c.index_issued.new.index c.args.first c.loop-number.number c.loop-number.invariant c.in_ok-index_issued.ensures

pub returns : goal.returns
returns c = entries_whole (facts_of c.args.books.now) c.args.index.now c.loop-number.index c.args.first c.loop-number.number (subst (λ n. n ≤ c.loop-number.number) c.entries-number-end.ensures.count c.loop-number-test.false) c.loop-number.invariant
