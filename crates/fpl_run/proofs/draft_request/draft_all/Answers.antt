use Rattle.std.proofs.Common.{inl, inr, refl}
use Rattle.request_handler.specs.Kept.{Kept}
use Rattle.fpl_drafting.specs.Drafting.{IsDrafted}
use Rattle.fpl_run.proofs.RequestLemmas.{asked_runs}
use Rattle.fpl_run.proofs.draft_request.draft_all.Goals as goal

pub returns-in-Ok-clause-drafts : goal.returns-in-Ok-clause-drafts
returns-in-Ok-clause-drafts g c =
    let before = g.W.Sink.taken c.args.output.now in
    let after = g.W.Sink.taken c.drafted.new.output in
    let first : Kept _ = record { host = c.in-Ok.host; moments = g.C.Clock.left c.args.clock.now; failed = g.K.Keeper.faults c.open.new.keeper; keeper = c.open.new.keeper } in
    let last : Kept _ = record { host = c.drafted.new.host; moments = g.C.Clock.left c.drafted.new.clock; failed = g.K.Keeper.faults c.drafted.new.keeper; keeper = c.drafted.new.keeper } in
    inl (asked_runs _ g.K.Keeper.tells g.K.Keeper.serves g.K.Keeper.holds g.K.Keeper.passes c.args.keeper.now first last c.args.key.now (g.K.Keeper.faults c.args.keeper.now)
    c.in-Ok.ensures.opened c.in-Ok.ensures.operator c.in-Ok.ensures.reread (c.in-Ok.ensures.counts (λ is. cc))
    (IsDrafted c.args.members c.args.rows.now before after c.drafted.result) c.drafted.ensures.drafted)

pub returns-in-Err-clause-drafts : goal.returns-in-Err-clause-drafts
returns-in-Err-clause-drafts g c = inr (refl, (c.in-Err.fault, c.in-Err.ensures.opened, c.in-Err.ensures.holds, c.unopened.ensures.told))
