use Rattle.request_handler.proofs.FaultFacts.{faults_never_fall}
use Rattle.request_handler.proofs.reply_laws.faults_never_fall.Goals as goal

pub returns : goal.returns
returns c = faults_never_fall
