use Rattle.std.proofs.Common.{refl, sym}
use Rattle.std.specs.Prelude.{Err}
use Rattle.request_handler.specs.Kept.{Kept}
use Rattle.fpl_drafting.specs.Steps.{position_in}
use Rattle.fpl_drafting.proofs.StepLemmas.{does_by, ends_by, fresh_shown, step_heard, then_ok}
use Rattle.fpl_drafting.proofs.steps.step_asked.Goals as goal

pub returns-in-Some-clause-done : goal.returns-in-Some-clause-done
returns-in-Some-clause-done g c =
    let told = c.ask-told in
    let first : Kept _ = record { host = c.args.host.now; moments = g.C.Clock.left c.args.clock.now; failed = g.K.Keeper.faults c.args.keeper.now; keeper = c.args.keeper.now } in
    let last : Kept _ = record { host = told.new.host; moments = g.C.Clock.left told.new.clock; failed = g.K.Keeper.faults told.new.keeper; keeper = told.new.keeper } in
    step_heard _ g.K.Keeper.tells g.K.Keeper.serves g.K.Keeper.holds g.K.Keeper.passes c.args.number c.args.row.now c.args.player c.request_of_player-asked.result told.result c.args.draft
    (g.W.Sink.taken c.args.output.now) (g.W.Sink.taken c.row_done.new.output) c.row_done.result first last c.request_of_player-asked.ensures.value c.requires.asks told.ensures.heard
    (does_by told.result c.in-Some.position c.args.number c.args.row.now c.args.draft (g.W.Sink.taken c.args.output.now) (g.W.Sink.taken c.row_done.new.output) c.row_done.result
    (sym c.in-Some.ensures) c.row_done.ensures.done)

pub returns-in-Some-clause-fresh : goal.returns-in-Some-clause-fresh
returns-in-Some-clause-fresh g c =
    then_ok c.row_done.result
    (fresh_shown position_in c.ask-told.new.host.stale c.ask-told.result c.in-Some.position refl refl c.ask-told.ensures.stale (sym c.in-Some.ensures))

pub returns-in-None-clause-done : goal.returns-in-None-clause-done
returns-in-None-clause-done g c =
    let told = c.ask-told in
    let first : Kept _ = record { host = c.args.host.now; moments = g.C.Clock.left c.args.clock.now; failed = g.K.Keeper.faults c.args.keeper.now; keeper = c.args.keeper.now } in
    let last : Kept _ = record { host = told.new.host; moments = g.C.Clock.left told.new.clock; failed = g.K.Keeper.faults told.new.keeper; keeper = told.new.keeper } in
    step_heard _ g.K.Keeper.tells g.K.Keeper.serves g.K.Keeper.holds g.K.Keeper.passes c.args.number c.args.row.now c.args.player c.request_of_player-asked.result told.result c.args.draft
    (g.W.Sink.taken c.args.output.now) (g.W.Sink.taken c.halted.new.output) (Err c.halted.result) first last c.request_of_player-asked.ensures.value c.requires.asks told.ensures.heard
    (ends_by told.result c.args.number c.args.row.now c.args.draft (g.W.Sink.taken c.args.output.now) (g.W.Sink.taken c.halted.new.output) c.halted.result
    (sym c.in-None.ensures) c.halted.ensures.ends)
