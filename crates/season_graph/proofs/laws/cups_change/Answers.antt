use Rattle.season_graph.proofs.CupChanges.{cup_is_drawn}
use Rattle.season_graph.proofs.laws.cups_change.Goals as goal

pub returns : goal.returns
returns c = cup_is_drawn
