use Rattle.season_graph.proofs.PlaceChanges.{managers_change}
use Rattle.season_graph.proofs.laws.managers_change.Goals as goal

pub returns : goal.returns
returns c = managers_change
