use Rattle.fpl_http.specs.Replies.{Speaks}
use Rattle.fpl_http.proofs.SessionLemmas.{session_over, session_ends_as}
use Rattle.fpl_http.proofs.opening.session.Goals as goal

pub returns-clause-over : goal.returns-clause-over
returns-clause-over g c = session_over (Speaks (g.R.Service.answers c.args.service.now)) (g.S.Source.left c.args.src.now) (g.S.Source.left c.open_session.new.src) (g.R.Service.see (c.args.host.now, c.args.keeper.now, c.args.clock.now, c.args.steps.now)) (g.R.Service.see (c.open_session.new.host, c.open_session.new.keeper, c.open_session.new.clock, c.open_session.new.steps)) (g.W.Sink.taken c.args.out.now) (g.W.Sink.taken c.open_session.new.out) c.open_session.result c.open_session.ensures.session

pub returns-clause-exact : goal.returns-clause-exact
returns-clause-exact g c = session_ends_as (Speaks (g.R.Service.answers c.args.service.now)) c.two_readings_are_one.ensures (g.S.Source.left c.args.src.now) (g.S.Source.left c.open_session.new.src) (g.R.Service.see (c.args.host.now, c.args.keeper.now, c.args.clock.now, c.args.steps.now)) (g.R.Service.see (c.open_session.new.host, c.open_session.new.keeper, c.open_session.new.clock, c.open_session.new.steps)) (g.W.Sink.taken c.args.out.now) (g.W.Sink.taken c.open_session.new.out) c.open_session.result c.open_session.ensures.session
