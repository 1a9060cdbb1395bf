use Rattle.season_nodes.specs.BookFacts.{facts_of}
use Rattle.season_graph.proofs.IndexingFacts.{FirstIndexed}
use Rattle.season_graph.proofs.indexing.index_gameweeks.Given as goal

abbrev pub invariant-loop-number : goal.invariant-loop-number
invariant-loop-number l = FirstIndexed (facts_of l.books) l.first l.number l.fn.index l.index
