use Rattle.scoring.proofs.ScoreFacts.{score_is_the_one}
use Rattle.scoring.proofs.laws.score_is_the_one.Goals as goal

pub returns : goal.returns
returns c = score_is_the_one
