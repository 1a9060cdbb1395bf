use Rattle.std.proofs.Common.{◌∙◌, refl, sym}
use Rattle.request_handler.specs.Kept.{Kept}
use Rattle.fpl_loading.specs.Standing.{lacks}
use Rattle.fpl_loading.proofs.AddingLemmas.{fresh_lacks, held_fresh, held_keeper, step_added, step_held}
use Rattle.fpl_loading.proofs.adding.step.Goals as goal

pub add-requires : goal.add-requires
add-requires g c =
    record { fresh = fresh_lacks c.args.command c.ask-told.new.host.stale c.ask-told.result c.ask-told.ensures.stale (sym c.lacks.ensures ∙ c.if-lacks.true); lawful = c.requires.lawful }

pub returns-then-lacks-clause-step : goal.returns-then-lacks-clause-step
returns-then-lacks-clause-step g c =
    let told = c.ask-told in
    let end = c.add.new in
    let first : Kept _ = record { host = c.args.host.now; moments = g.C.Clock.left c.args.clock.now; failed = g.K.Keeper.faults c.args.keeper.now; keeper = c.args.keeper.now } in
    let mid : Kept _ = record { host = told.new.host; moments = g.C.Clock.left told.new.clock; failed = g.K.Keeper.faults told.new.keeper; keeper = told.new.keeper } in
    let last : Kept _ = record { host = end.host; moments = g.C.Clock.left end.clock; failed = g.K.Keeper.faults end.keeper; keeper = end.keeper } in
    step_added _ g.K.Keeper.tells g.K.Keeper.serves g.K.Keeper.holds g.K.Keeper.passes c.args.number c.args.place c.args.command c.request_of-asked.result told.result first mid c.request_of-asked.ensures.value told.ensures.heard
    c.add.result last (sym c.lacks.ensures ∙ c.if-lacks.true) c.add.ensures.added

pub returns-else-lacks-clause-step : goal.returns-else-lacks-clause-step
returns-else-lacks-clause-step g c =
    let told = c.ask-told in
    let first : Kept _ = record { host = c.args.host.now; moments = g.C.Clock.left c.args.clock.now; failed = g.K.Keeper.faults c.args.keeper.now; keeper = c.args.keeper.now } in
    let mid : Kept _ = record { host = told.new.host; moments = g.C.Clock.left told.new.clock; failed = g.K.Keeper.faults told.new.keeper; keeper = told.new.keeper } in
    step_held _ g.K.Keeper.tells g.K.Keeper.serves g.K.Keeper.holds g.K.Keeper.passes c.args.number c.args.place c.args.command c.request_of-asked.result told.result first mid c.request_of-asked.ensures.value told.ensures.heard
    c.hold.result (sym c.lacks.ensures ∙ c.if-lacks.false) c.hold.ensures

pub returns-else-lacks-clause-fresh : goal.returns-else-lacks-clause-fresh
returns-else-lacks-clause-fresh g c = held_fresh c.args.place c.args.command c.ask-told.new.host.stale c.ask-told.result c.hold.result c.ask-told.ensures.stale c.hold.ensures

pub returns-else-lacks-clause-keeper : goal.returns-else-lacks-clause-keeper
returns-else-lacks-clause-keeper g c = held_keeper (record { before = g.K.Keeper.faults c.args.keeper.now; behind = g.K.Keeper.faults c.ask-told.new.keeper }) c.args.place c.args.command c.ask-told.result c.hold.result c.ask-told.ensures.caused c.hold.ensures
