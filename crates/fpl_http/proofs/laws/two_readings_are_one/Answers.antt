use Rattle.fpl_http.proofs.StreamLemmas.{reads_unique}
use Rattle.fpl_http.proofs.laws.two_readings_are_one.Goals as goal

pub returns : goal.returns
returns c = reads_unique
