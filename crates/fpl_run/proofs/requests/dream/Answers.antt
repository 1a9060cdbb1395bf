use Rattle.std.proofs.Common.{inl, inr, refl}
use Rattle.request_handler.specs.Kept.{Kept}
use Rattle.fpl_dreaming.specs.Dreaming.{IsDreamed}
use Rattle.fpl_run.proofs.RequestLemmas.{asked_runs}
use Rattle.fpl_run.proofs.requests.dream.Goals as goal

pub returns-in-Ok-clause-dreams : goal.returns-in-Ok-clause-dreams
returns-in-Ok-clause-dreams g c =
    let before = g.W.Sink.taken c.args.output.now in
    let after = g.W.Sink.taken c.dreamed.new.output in
    let first : Kept _ = record { host = c.in-Ok.host; moments = g.C.Clock.left c.args.clock.now; failed = g.K.Keeper.faults c.open.new.keeper; keeper = c.open.new.keeper } in
    let last : Kept _ = record { host = c.dreamed.new.host; moments = g.C.Clock.left c.dreamed.new.clock; failed = g.K.Keeper.faults c.dreamed.new.keeper; keeper = c.dreamed.new.keeper } in
    inl (asked_runs _ g.K.Keeper.tells g.K.Keeper.serves g.K.Keeper.holds g.K.Keeper.passes c.args.keeper.now first last c.args.key.now (g.K.Keeper.faults c.args.keeper.now)
    c.in-Ok.ensures.opened c.in-Ok.ensures.operator c.in-Ok.ensures.reread (c.in-Ok.ensures.counts (λ is. cc))
    (IsDreamed c.args.gameweek before after c.dreamed.result) c.dreamed.ensures.dreamed)

pub returns-in-Err-clause-dreams : goal.returns-in-Err-clause-dreams
returns-in-Err-clause-dreams g c = inr (refl, (c.in-Err.fault, c.in-Err.ensures.opened, c.in-Err.ensures.holds, c.unopened.ensures.told))
