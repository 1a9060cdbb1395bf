use Rattle.std.proofs.Common.{arith, refl, [], Some}
use Rattle.fpl_http.specs.declared.turn.Turn.TheVariants as Turns
use Rattle.fpl_http.specs.Replies.{Speaks}
use Rattle.fpl_http.proofs.ServedLemmas.{served_none, turned_after}
use Rattle.fpl_http.proofs.batch.take_turns.Goals as goal

pub loop-places-init : goal.loop-places-init
loop-places-init g c = record {
  ready = c.requires.ready;
  served = rw c.requires.empty (served_none (Speaks (g.R.Service.answers c.args.service.now)) c.args.places.now.decoder.pending c.args.places.now.decoder.pending (g.R.Service.see (c.args.host.now, c.args.keeper.now, c.args.clock.now, c.args.steps.now)) (Some []) refl);
  fewer = omega arith;
  room = rw c.requires.empty (omega arith);
}

pub loop-places-preserved : goal.loop-places-preserved
loop-places-preserved g c =
    let (served, less) = turned_after (Speaks (g.R.Service.answers c.args.service.now)) c.args.places.now.decoder c.loop-places.places.decoder c.take_turn.new.places.decoder (g.R.Service.see (c.args.host.now, c.args.keeper.now, c.args.clock.now, c.args.steps.now)) (g.R.Service.see (c.loop-places.host, c.loop-places.keeper, c.loop-places.clock, c.loop-places.steps)) (g.R.Service.see (c.take_turn.new.host, c.take_turn.new.keeper, c.take_turn.new.clock, c.take_turn.new.steps)) (Some []) (Some c.loop-places.places.outbox) (Some c.take_turn.new.places.outbox) Turns.Answered c.loop-places.invariant.served c.loop-places.invariant.fewer c.in-Answered.ensures.turned in
    record { ready = c.in-Answered.ensures.ready; served = served; fewer = omega (arith, less); room = grind (arith, c.is_full.ensures, c.if-is_full.false) }

pub returns-then-is_full-clause-turned : goal.returns-then-is_full-clause-turned
returns-then-is_full-clause-turned g c = turned_after (Speaks (g.R.Service.answers c.args.service.now)) c.args.places.now.decoder c.loop-places.places.decoder c.take_turn.new.places.decoder (g.R.Service.see (c.args.host.now, c.args.keeper.now, c.args.clock.now, c.args.steps.now)) (g.R.Service.see (c.loop-places.host, c.loop-places.keeper, c.loop-places.clock, c.loop-places.steps)) (g.R.Service.see (c.take_turn.new.host, c.take_turn.new.keeper, c.take_turn.new.clock, c.take_turn.new.steps)) (Some []) (Some c.loop-places.places.outbox) (Some c.take_turn.new.places.outbox) Turns.Answered c.loop-places.invariant.served c.loop-places.invariant.fewer c.in-Answered.ensures.turned

pub returns-in-Waits-clause-turned : goal.returns-in-Waits-clause-turned
returns-in-Waits-clause-turned g c = turned_after (Speaks (g.R.Service.answers c.args.service.now)) c.args.places.now.decoder c.loop-places.places.decoder c.take_turn.new.places.decoder (g.R.Service.see (c.args.host.now, c.args.keeper.now, c.args.clock.now, c.args.steps.now)) (g.R.Service.see (c.loop-places.host, c.loop-places.keeper, c.loop-places.clock, c.loop-places.steps)) (g.R.Service.see (c.take_turn.new.host, c.take_turn.new.keeper, c.take_turn.new.clock, c.take_turn.new.steps)) (Some []) (Some c.loop-places.places.outbox) (Some c.take_turn.new.places.outbox) Turns.Waits c.loop-places.invariant.served c.loop-places.invariant.fewer c.in-Waits.ensures.turned

pub returns-in-Closed-clause-turned : goal.returns-in-Closed-clause-turned
returns-in-Closed-clause-turned g c = turned_after (Speaks (g.R.Service.answers c.args.service.now)) c.args.places.now.decoder c.loop-places.places.decoder c.take_turn.new.places.decoder (g.R.Service.see (c.args.host.now, c.args.keeper.now, c.args.clock.now, c.args.steps.now)) (g.R.Service.see (c.loop-places.host, c.loop-places.keeper, c.loop-places.clock, c.loop-places.steps)) (g.R.Service.see (c.take_turn.new.host, c.take_turn.new.keeper, c.take_turn.new.clock, c.take_turn.new.steps)) (Some []) (Some c.loop-places.places.outbox) (Some c.take_turn.new.places.outbox) Turns.Closed c.loop-places.invariant.served c.loop-places.invariant.fewer c.in-Closed.ensures.turned

pub returns-in-Refused-clause-turned : goal.returns-in-Refused-clause-turned
returns-in-Refused-clause-turned g c = turned_after (Speaks (g.R.Service.answers c.args.service.now)) c.args.places.now.decoder c.loop-places.places.decoder c.take_turn.new.places.decoder (g.R.Service.see (c.args.host.now, c.args.keeper.now, c.args.clock.now, c.args.steps.now)) (g.R.Service.see (c.loop-places.host, c.loop-places.keeper, c.loop-places.clock, c.loop-places.steps)) (g.R.Service.see (c.take_turn.new.host, c.take_turn.new.keeper, c.take_turn.new.clock, c.take_turn.new.steps)) (Some []) (Some c.loop-places.places.outbox) (Some c.take_turn.new.places.outbox) (Turns.Refused c.in-Refused.status) c.loop-places.invariant.served c.loop-places.invariant.fewer c.in-Refused.ensures.turned
