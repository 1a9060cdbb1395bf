use Rattle.fpl_http.proofs.StayLemmas.{runs_stay, sessions_stay}
use Rattle.fpl_http.proofs.session_laws.sessions_stay.Goals as goal

pub returns-clause-runs : goal.returns-clause-runs
returns-clause-runs g c = runs_stay g.T.Staying.holds g.T.Staying.one g.T.Staying.other

pub returns-clause-sessions : goal.returns-clause-sessions
returns-clause-sessions g c = sessions_stay g.T.Staying.holds g.T.Staying.one g.T.Staying.other
