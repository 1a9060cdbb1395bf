use Rattle.fpl_http.proofs.SplitLemmas.{sessions_split, sessions_split_over}
use Rattle.fpl_http.proofs.session_laws.sessions_split.Goals as goal

pub returns-clause-sessions : goal.returns-clause-sessions
returns-clause-sessions g c = sessions_split g.T.Answering.one g.T.Answering.other

pub returns-clause-over : goal.returns-clause-over
returns-clause-over g c = sessions_split_over g.T.Answering.one g.T.Answering.other
