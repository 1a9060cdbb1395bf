use Rattle.season_graph.proofs.IndexingFacts.{index_is_kept}
use Rattle.season_graph.proofs.laws.index_stays.Goals as goal

pub returns : goal.returns
returns c = index_is_kept
