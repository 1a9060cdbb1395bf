use Rattle.std.proofs.Common.{subst}
use Rattle.season_nodes.specs.BookFacts.{facts_of}
use Rattle.season_nodes.specs.IndexFacts.{IndexRows}
use Rattle.season_graph.specs.Indexed.{LocksIndexed}
use Rattle.season_graph.proofs.IndexingFacts.{index_whole}
use Rattle.season_graph.proofs.evaluation.index_all.Goals as goal

pub returns : goal.returns
returns c =
    let b = facts_of c.args.books.now in
    index_whole b c.index_gameweeks.new.index (subst (λ (rows : IndexRows). LocksIndexed b 0 rows c.index_gameweeks.new.index) c.new-index.ensures c.in_ok-index_gameweeks.ensures)
