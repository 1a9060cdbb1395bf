use Rattle.season_nodes.proofs.TieFacts.{ties_are_told}
use Rattle.season_nodes.proofs.laws.ties_are_told.Goals as goal

pub returns : goal.returns
returns c = ties_are_told
