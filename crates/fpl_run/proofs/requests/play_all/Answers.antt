use Rattle.std.proofs.Common.{inl, inr, refl}
use Rattle.request_handler.specs.Kept.{Kept}
use Rattle.fpl_events.specs.Playing.{IsPlayed}
use Rattle.fpl_run.proofs.RequestLemmas.{asked_runs}
use Rattle.fpl_run.proofs.requests.play_all.Goals as goal

pub returns-in-Ok-clause-plays : goal.returns-in-Ok-clause-plays
returns-in-Ok-clause-plays g c =
    let before = g.W.Sink.taken c.args.output.now in
    let after = g.W.Sink.taken c.played.new.output in
    let first : Kept _ = record { host = c.in-Ok.host; moments = g.C.Clock.left c.args.clock.now; failed = g.K.Keeper.faults c.open.new.keeper; keeper = c.open.new.keeper } in
    let last : Kept _ = record { host = c.played.new.host; moments = g.C.Clock.left c.played.new.clock; failed = g.K.Keeper.faults c.played.new.keeper; keeper = c.played.new.keeper } in
    inl (asked_runs _ g.K.Keeper.tells g.K.Keeper.serves g.K.Keeper.holds g.K.Keeper.passes c.args.keeper.now first last c.args.key.now (g.K.Keeper.faults c.args.keeper.now)
    c.in-Ok.ensures.opened c.in-Ok.ensures.operator c.in-Ok.ensures.reread (c.in-Ok.ensures.counts (λ is. cc))
    (IsPlayed c.args.fixture c.args.minutes c.args.rows.now before after c.played.result) c.played.ensures.played)

pub returns-in-Err-clause-plays : goal.returns-in-Err-clause-plays
returns-in-Err-clause-plays g c = inr (refl, (c.in-Err.fault, c.in-Err.ensures.opened, c.in-Err.ensures.holds, c.unopened.ensures.told))
