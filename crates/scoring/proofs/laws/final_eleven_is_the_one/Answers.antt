use Rattle.scoring.proofs.ScoreFacts.{final_eleven_is_the_one}
use Rattle.scoring.proofs.laws.final_eleven_is_the_one.Goals as goal

pub returns : goal.returns
returns c = final_eleven_is_the_one
