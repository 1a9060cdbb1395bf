use Rattle.leagues_and_cups.proofs.MeanFacts.{mean_is_the_one}
use Rattle.leagues_and_cups.proofs.head_laws.mean_is_the_one.Goals as goal

pub returns : goal.returns
returns c = mean_is_the_one
