use Rattle.scoring.proofs.OneEleven.{same_final}
use Rattle.scoring.proofs.eleven.one_eleven.Goals as goal

pub returns : goal.returns
returns c = same_final
