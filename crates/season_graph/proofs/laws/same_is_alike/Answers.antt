use Rattle.season_graph.proofs.SameFacts as facts
use Rattle.season_graph.proofs.laws.same_is_alike.Goals as goal

pub returns : goal.returns
returns c = facts.same_is_alike
