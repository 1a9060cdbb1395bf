use Rattle.scoring.proofs.RangeFacts.{scores_in_range}
use Rattle.scoring.proofs.laws.scores_are_in_range.Goals as goal

pub returns : goal.returns
returns c = scores_in_range
