use Rattle.squad_rules.proofs.FormationFacts.{enough_always}
use Rattle.squad_rules.proofs.lineup.enough_is_formation.Goals as goal

pub returns : goal.returns
returns c = enough_always
