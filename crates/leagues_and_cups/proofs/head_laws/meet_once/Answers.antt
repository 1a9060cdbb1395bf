use Rattle.leagues_and_cups.proofs.head_laws.meet_once.Goals as goal
use Rattle.leagues_and_cups.proofs.RoundLemmas.{one_round}

pub returns : goal.returns
returns c = one_round
