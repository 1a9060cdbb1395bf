use Rattle.std.proofs.Common.{sym}
use Rattle.fpl_base.specs.declared.kinds.Position.TheVariants.{Keeper}
use Rattle.request_handler.specs.Kept.{Kept}
use Rattle.fpl_drafting.proofs.StepLemmas.{step_alone}
use Rattle.fpl_drafting.proofs.steps.step_done.Goals as goal

pub returns-in-None-clause-done : goal.returns-in-None-clause-done
returns-in-None-clause-done g c =
    let kept : Kept _ = record { host = c.args.host.now; moments = g.C.Clock.left c.args.clock.now; failed = g.K.Keeper.faults c.args.keeper.now; keeper = c.args.keeper.now } in
    step_alone _ g.K.Keeper.tells g.K.Keeper.serves g.K.Keeper.holds g.K.Keeper.passes c.args.number c.args.row.now Keeper c.args.draft
    (g.W.Sink.taken c.args.output.now) (g.W.Sink.taken c.row_done.new.output) c.row_done.result kept (sym c.in-None.ensures) c.row_done.ensures.done
