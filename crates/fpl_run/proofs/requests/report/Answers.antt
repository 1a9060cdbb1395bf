use Rattle.std.proofs.Common.{inl, inr, refl, subst}
use Rattle.season_book.specs.declared.request.View.{View}
use Rattle.local_requests.specs.Printing.{IsReported}
use Rattle.request_handler.specs.Kept.{Kept, Leads}
use Rattle.fpl_run.proofs.RequestLemmas.{asked_runs}
use Rattle.fpl_run.specs.Requests.{view_of}
use Rattle.fpl_run.proofs.requests.report.Goals as goal

pub returns-in-Ok-clause-reports : goal.returns-in-Ok-clause-reports
returns-in-Ok-clause-reports g c =
    let before = g.W.Sink.taken c.args.output.now in
    let after = g.W.Sink.taken c.reported.new.output in
    let first : Kept _ = record { host = c.in-Ok.host; moments = g.C.Clock.left c.args.clock.now; failed = g.K.Keeper.faults c.open.new.keeper; keeper = c.open.new.keeper } in
    let last : Kept _ = record { host = c.reported.new.host; moments = g.C.Clock.left c.reported.new.clock; failed = g.K.Keeper.faults c.reported.new.keeper; keeper = c.reported.new.keeper } in
    inl (asked_runs _ g.K.Keeper.tells g.K.Keeper.serves g.K.Keeper.holds g.K.Keeper.passes c.args.keeper.now first last c.args.key.now (g.K.Keeper.faults c.args.keeper.now)
    c.in-Ok.ensures.opened c.in-Ok.ensures.operator c.in-Ok.ensures.reread (c.in-Ok.ensures.counts (λ is. cc))
    (IsReported (view_of c.args.what) before after c.reported.result)
    (subst (λ (v : View). Leads g.K.Keeper.tells g.K.Keeper.serves g.K.Keeper.holds g.K.Keeper.passes first last (IsReported v before after c.reported.result)) c.view_of.ensures c.reported.ensures.reported))

pub returns-in-Err-clause-reports : goal.returns-in-Err-clause-reports
returns-in-Err-clause-reports g c = inr (refl, (c.in-Err.fault, c.in-Err.ensures.opened, c.in-Err.ensures.holds, c.unopened.ensures.told))
