use Rattle.fpl_requests.proofs.FoundFacts.{one_found}
use Rattle.fpl_requests.proofs.laws.targets_ask_one_thing.Goals as goal

pub returns : goal.returns
returns c = one_found
