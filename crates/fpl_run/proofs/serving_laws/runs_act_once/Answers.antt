use Rattle.fpl_run.proofs.OnceLemmas.{kept_serves, kept_sessions, serves_until, sessions_until}
use Rattle.fpl_run.proofs.serving_laws.runs_act_once.Goals as goal

pub returns-clause-pipe : goal.returns-clause-pipe
returns-clause-pipe c = kept_sessions c.messages_act_once.ensures c.sessions_answer.ensures

pub returns-clause-serve : goal.returns-clause-serve
returns-clause-serve c = kept_serves c.messages_act_once.ensures c.sessions_answer.ensures

pub returns-clause-pipe_until : goal.returns-clause-pipe_until
returns-clause-pipe_until c = sessions_until c.messages_act_once.ensures c.sessions_answer-2.ensures

pub returns-clause-serve_until : goal.returns-clause-serve_until
returns-clause-serve_until c = serves_until c.messages_act_once.ensures c.sessions_answer-2.ensures
