use Rattle.leagues_and_cups.proofs.head_laws.each_meets_one.Goals as goal
use Rattle.leagues_and_cups.proofs.RoundLemmas.{one_opponent, same_opponent}

pub returns-clause-places : goal.returns-clause-places
returns-clause-places c = one_opponent

pub returns-clause-opponents : goal.returns-clause-opponents
returns-clause-opponents c = same_opponent
