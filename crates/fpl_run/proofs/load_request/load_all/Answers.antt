use Rattle.std.proofs.Common.{inl, inr, refl}
use Rattle.fpl_loading.specs.More.{LoadsBy}
use Rattle.request_handler.specs.Kept.{Kept}
use Rattle.fpl_run.proofs.RequestLemmas.{asked_runs}
use Rattle.fpl_run.proofs.load_request.load_all.Goals as goal

pub returns-in-Ok-clause-loads : goal.returns-in-Ok-clause-loads
returns-in-Ok-clause-loads g c =
    let first : Kept _ = record { host = c.in-Ok.host; moments = g.C.Clock.left c.args.clock.now; failed = g.K.Keeper.faults c.open.new.keeper; keeper = c.open.new.keeper } in
    let last : Kept _ = record { host = c.loaded_by.new.host; moments = g.C.Clock.left c.loaded_by.new.clock; failed = g.K.Keeper.faults c.loaded_by.new.keeper; keeper = c.loaded_by.new.keeper } in
    inl (asked_runs _ g.K.Keeper.tells g.K.Keeper.serves g.K.Keeper.holds g.K.Keeper.passes c.args.keeper.now first last c.args.key.now (g.K.Keeper.faults c.args.keeper.now)
    c.in-Ok.ensures.opened c.in-Ok.ensures.operator c.in-Ok.ensures.reread (c.in-Ok.ensures.counts (λ is. cc))
    (LoadsBy c.args.more c.args.commands.items (g.W.Sink.taken c.args.output.now) (g.W.Sink.taken c.loaded_by.new.output) c.loaded_by.result.status c.loaded_by.result.note) c.loaded_by.ensures.loaded)

pub returns-in-Err-clause-loads : goal.returns-in-Err-clause-loads
returns-in-Err-clause-loads g c = inr (refl, refl, (c.in-Err.fault, c.in-Err.ensures.opened, c.in-Err.ensures.holds, c.unopened-status.ensures.told))
