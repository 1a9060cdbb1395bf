use Rattle.fpl_http.specs.Replies.{Speaks}
use Rattle.fpl_http.proofs.ServedLemmas.{turned_failed, turned_sent}
use Rattle.fpl_http.proofs.batch.take_batch.Goals as goal

pub returns-in-Ok-clause-batched : goal.returns-in-Ok-clause-batched
returns-in-Ok-clause-batched g c = turned_sent (Speaks (g.R.Service.answers c.args.service.now)) c.args.places.now.decoder c.take_turns-turn.new.places.decoder (g.R.Service.see (c.args.host.now, c.args.keeper.now, c.args.clock.now, c.args.steps.now)) (g.R.Service.see (c.take_turns-turn.new.host, c.take_turns-turn.new.keeper, c.take_turns-turn.new.clock, c.take_turns-turn.new.steps)) (g.W.Sink.taken c.args.out.now) (g.W.Sink.taken c.send-sent.new.out) c.take_turns-turn.new.places.outbox c.take_turns-turn.result c.take_turns-turn.ensures.turned c.in-Ok.ensures.sent.ok

pub returns-in-Err-clause-batched : goal.returns-in-Err-clause-batched
returns-in-Err-clause-batched g c = turned_failed (Speaks (g.R.Service.answers c.args.service.now)) c.args.places.now.decoder c.take_turns-turn.new.places.decoder (g.R.Service.see (c.args.host.now, c.args.keeper.now, c.args.clock.now, c.args.steps.now)) (g.R.Service.see (c.take_turns-turn.new.host, c.take_turns-turn.new.keeper, c.take_turns-turn.new.clock, c.take_turns-turn.new.steps)) (g.W.Sink.taken c.args.out.now) (g.W.Sink.taken c.send-sent.new.out) c.take_turns-turn.new.places.outbox c.take_turns-turn.result c.in-Err.ensures.some c.take_turns-turn.ensures.turned c.in-Err.ensures.sent.failed
