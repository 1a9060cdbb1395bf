use Rattle.fpl_http.proofs.LiftLemmas.{runs_lift, sessions_lift}
use Rattle.fpl_http.proofs.session_laws.sessions_lift.Goals as goal

pub returns-clause-runs : goal.returns-clause-runs
returns-clause-runs g c = runs_lift g.T.Standing.follows g.T.Standing.stands g.T.Standing.answers

pub returns-clause-sessions : goal.returns-clause-sessions
returns-clause-sessions g c = sessions_lift g.T.Standing.follows g.T.Standing.stands g.T.Standing.answers
