use Rattle.season_nodes.specs.BookFacts.{facts_of}
use Rattle.season_graph.proofs.IndexingFacts.{SomeIndexed}
use Rattle.season_graph.proofs.indexing.index_entry.Given as goal

abbrev pub invariant-loop-number : goal.invariant-loop-number
invariant-loop-number l = SomeIndexed (facts_of l.books) l.entry l.first l.number l.fn.index l.index
