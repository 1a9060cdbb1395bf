use Rattle.leagues_and_cups.proofs.OpponentFacts.{opponent_is_the_one}
use Rattle.leagues_and_cups.proofs.head_laws.opponent_is_the_one.Goals as goal

pub returns : goal.returns
returns c = opponent_is_the_one
