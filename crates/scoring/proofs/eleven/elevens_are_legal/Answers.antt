use Rattle.scoring.proofs.Legal.{always_legal}
use Rattle.scoring.proofs.eleven.elevens_are_legal.Goals as goal

pub returns : goal.returns
returns c = always_legal c.enough_is_formation.ensures
