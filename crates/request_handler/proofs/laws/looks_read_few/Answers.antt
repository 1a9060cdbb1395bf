use Rattle.request_handler.proofs.LookLemmas.{looks_read_few}
use Rattle.request_handler.proofs.laws.looks_read_few.Goals as goal

pub returns : goal.returns
returns g c = looks_read_few _
