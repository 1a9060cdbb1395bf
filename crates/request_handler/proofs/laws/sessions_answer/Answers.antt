use Rattle.request_handler.proofs.AnsweredLemmas.{sessions_answer}
use Rattle.request_handler.proofs.laws.sessions_answer.Goals as goal

pub returns : goal.returns
returns g c = sessions_answer g.T.Answering.one
