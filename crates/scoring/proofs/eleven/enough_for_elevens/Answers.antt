use Rattle.scoring.proofs.Enough.{enough_alike}
use Rattle.scoring.proofs.eleven.enough_for_elevens.Goals as goal

pub returns : goal.returns
returns c = enough_alike
