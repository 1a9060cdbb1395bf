use Rattle.std.proofs.Common.{arith, refl}
use Rattle.fpl_http.specs.declared.ending.Ending.TheVariants as Ends
use Rattle.fpl_http.specs.Replies.{Speaks}
use Rattle.fpl_http.proofs.ServedLemmas.{batch_after, served_none, served_then, stopped_after}
use Rattle.fpl_http.proofs.piece.answer_all.Goals as goal

pub loop-status-init : goal.loop-status-init
loop-status-init g c = record {
  ready = c.requires.ready;
  served = served_none (Speaks (g.R.Service.answers c.args.service.now)) c.args.places.now.decoder.pending c.args.places.now.decoder.pending (g.R.Service.see (c.args.host.now, c.args.keeper.now, c.args.clock.now, c.args.steps.now)) (g.W.Sink.taken c.args.out.now) refl;
  empty = c.requires.empty;
  later = omega arith;
}

pub loop-status-preserved : goal.loop-status-preserved
loop-status-preserved g c = record {
  ready = c.in-Ok-Answered.ensures.ready;
  served = served_then (Speaks (g.R.Service.answers c.args.service.now)) _ c.loop-status.places.decoder.pending c.take_batch.new.places.decoder.pending _ (g.R.Service.see (c.loop-status.host, c.loop-status.keeper, c.loop-status.clock, c.loop-status.steps)) (g.R.Service.see (c.take_batch.new.host, c.take_batch.new.keeper, c.take_batch.new.clock, c.take_batch.new.steps)) _ (g.W.Sink.taken c.loop-status.out) (g.W.Sink.taken c.take_batch.new.out) c.loop-status.invariant.served (rw c.in-Ok-Answered.field-0-is at c.in-Ok-Answered.ensures.batched).0;
  empty = c.in-Ok-Answered.ensures.empty;
  later = omega (arith, c.loop-status.invariant.later, c.in-Ok-Answered.ensures.later);
}

pub returns-in-Ok-Waits-clause-served : goal.returns-in-Ok-Waits-clause-served
returns-in-Ok-Waits-clause-served g c = (
  served_then (Speaks (g.R.Service.answers c.args.service.now)) _ c.loop-status.places.decoder.pending c.take_batch.new.places.decoder.pending _ (g.R.Service.see (c.loop-status.host, c.loop-status.keeper, c.loop-status.clock, c.loop-status.steps)) (g.R.Service.see (c.take_batch.new.host, c.take_batch.new.keeper, c.take_batch.new.clock, c.take_batch.new.steps)) _ (g.W.Sink.taken c.loop-status.out) (g.W.Sink.taken c.take_batch.new.out) c.loop-status.invariant.served (rw c.in-Ok-Waits.field-0-is at c.in-Ok-Waits.ensures.batched).0,
  (rw c.in-Ok-Waits.field-0-is at c.in-Ok-Waits.ensures.batched).1,
)

pub returns-in-Ok-Closed-clause-served : goal.returns-in-Ok-Closed-clause-served
returns-in-Ok-Closed-clause-served g c = stopped_after (Speaks (g.R.Service.answers c.args.service.now)) _ c.loop-status.places.decoder.pending _ (g.R.Service.see (c.loop-status.host, c.loop-status.keeper, c.loop-status.clock, c.loop-status.steps)) (g.R.Service.see (c.take_batch.new.host, c.take_batch.new.keeper, c.take_batch.new.clock, c.take_batch.new.steps)) _ (g.W.Sink.taken c.loop-status.out) (g.W.Sink.taken c.take_batch.new.out) Ends.Closed c.loop-status.invariant.served (rw c.in-Ok-Closed.field-0-is at c.in-Ok-Closed.ensures.batched)

pub returns-in-Ok-Refused-clause-served : goal.returns-in-Ok-Refused-clause-served
returns-in-Ok-Refused-clause-served g c = stopped_after (Speaks (g.R.Service.answers c.args.service.now)) _ c.loop-status.places.decoder.pending _ (g.R.Service.see (c.loop-status.host, c.loop-status.keeper, c.loop-status.clock, c.loop-status.steps)) (g.R.Service.see (c.take_batch.new.host, c.take_batch.new.keeper, c.take_batch.new.clock, c.take_batch.new.steps)) _ (g.W.Sink.taken c.loop-status.out) (g.W.Sink.taken c.take_batch.new.out) (Ends.Refused c.in-Ok-Refused.status) c.loop-status.invariant.served (rw c.in-Ok-Refused.field-0-is at c.in-Ok-Refused.ensures.batched)

pub returns-in-Err-clause-served : goal.returns-in-Err-clause-served
returns-in-Err-clause-served g c = batch_after (Speaks (g.R.Service.answers c.args.service.now)) _ c.loop-status.places.decoder.pending _ (g.R.Service.see (c.loop-status.host, c.loop-status.keeper, c.loop-status.clock, c.loop-status.steps)) (g.R.Service.see (c.take_batch.new.host, c.take_batch.new.keeper, c.take_batch.new.clock, c.take_batch.new.steps)) _ (g.W.Sink.taken c.loop-status.out) (g.W.Sink.taken c.take_batch.new.out) c.loop-status.invariant.served c.in-Err.ensures.batched
