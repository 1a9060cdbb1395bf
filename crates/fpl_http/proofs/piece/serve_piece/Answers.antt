use Rattle.std.proofs.Common.{arith, refl, ◌-◌, length}
use Rattle.std.proofs.lemmas.List.{length-drop}
use Rattle.fpl_http.specs.Replies.{Speaks}
use Rattle.fpl_http.proofs.ServedLemmas.{served_none}
use Rattle.fpl_http.proofs.SessionLemmas.{fed_more, fed_stops}
use Rattle.fpl_http.proofs.piece.serve_piece.Goals as goal

pub loop-rest-init : goal.loop-rest-init
loop-rest-init g c = record {
  ready = c.requires.ready;
  served = served_none (Speaks (g.R.Service.answers c.args.service.now)) _ _ (g.R.Service.see (c.args.host.now, c.args.keeper.now, c.args.clock.now, c.args.steps.now)) (g.W.Sink.taken c.args.out.now) refl;
  waiting = c.requires.waiting;
  empty = c.requires.empty;
  later = omega arith;
}

pub returns-in-Some-clause-served : goal.returns-in-Some-clause-served
returns-in-Some-clause-served g c =
    fed_stops (Speaks (g.R.Service.answers c.args.service.now)) _ c.loop-rest.places.decoder.pending c.loop-rest.rest.now c.feed-count.new.self.pending c.feed-count.result _ (g.R.Service.see (c.loop-rest.host, c.loop-rest.keeper, c.loop-rest.clock, c.loop-rest.steps)) (g.R.Service.see (c.answer_all.new.host, c.answer_all.new.keeper, c.answer_all.new.clock, c.answer_all.new.steps)) _ (g.W.Sink.taken c.loop-rest.out) (g.W.Sink.taken c.answer_all.new.out) c.in-Some.ending
    c.loop-rest.invariant.served c.feed-count.ensures.pending c.in-Some.ensures.served

pub loop-rest-preserved : goal.loop-rest-preserved
loop-rest-preserved g c = record {
  ready = c.in-None.ensures.ready;
  served = fed_more (Speaks (g.R.Service.answers c.args.service.now)) _ c.loop-rest.places.decoder.pending c.loop-rest.rest.now c.feed-count.new.self.pending c.answer_all.new.places.decoder.pending c.feed-count.result (length c.loop-rest.rest.now - c.feed-count.result) _ (g.R.Service.see (c.loop-rest.host, c.loop-rest.keeper, c.loop-rest.clock, c.loop-rest.steps)) (g.R.Service.see (c.answer_all.new.host, c.answer_all.new.keeper, c.answer_all.new.clock, c.answer_all.new.steps)) _ (g.W.Sink.taken c.loop-rest.out) (g.W.Sink.taken c.answer_all.new.out)
      (omega (arith, length-drop c.feed-count.result c.loop-rest.rest.now)) c.loop-rest.invariant.served c.feed-count.ensures.pending c.in-None.ensures.served.0;
  waiting = c.in-None.ensures.served.1;
  empty = c.in-None.ensures.empty;
  later = omega (arith, c.loop-rest.invariant.later, c.in-None.ensures.later);
}
