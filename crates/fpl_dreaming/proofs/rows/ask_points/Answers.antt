use Rattle.std.proofs.Common.{refl, sym}
use Rattle.request_handler.specs.Kept.{Kept}
use Rattle.local_requests.proofs.AskingLemmas.{rose_behind}
use Rattle.fpl_dreaming.specs.Rows.{figures_in}
use Rattle.fpl_dreaming.proofs.AskedLemmas.{fresh_shown, points_not, points_shown}
use Rattle.fpl_dreaming.proofs.rows.ask_points.Goals as goal

pub returns-in-Some-clause-asked : goal.returns-in-Some-clause-asked
returns-in-Some-clause-asked g c =
    let told = c.ask-told in
    let first : Kept _ = record { host = c.args.host.now; moments = g.C.Clock.left c.args.clock.now; failed = g.K.Keeper.faults c.args.keeper.now; keeper = c.args.keeper.now } in
    let last : Kept _ = record { host = told.new.host; moments = g.C.Clock.left told.new.clock; failed = g.K.Keeper.faults told.new.keeper; keeper = told.new.keeper } in
    points_shown _ g.K.Keeper.tells g.K.Keeper.serves g.K.Keeper.holds g.K.Keeper.passes c.args.player c.args.gameweek c.args.position c.request_of_points-asked.result told.result c.in-Some.figures c.row_of.result first last
    c.request_of_points-asked.ensures.value (sym c.in-Some.ensures) c.row_of.ensures.value told.ensures.heard

pub returns-in-Some-clause-fresh : goal.returns-in-Some-clause-fresh
returns-in-Some-clause-fresh g c =
    fresh_shown figures_in c.ask-told.new.host.stale c.ask-told.result c.in-Some.figures refl refl c.ask-told.ensures.stale (sym c.in-Some.ensures)

pub returns-clause-asked : goal.returns-clause-asked
returns-clause-asked g c =
    let told = c.ask-told in
    let first : Kept _ = record { host = c.args.host.now; moments = g.C.Clock.left c.args.clock.now; failed = g.K.Keeper.faults c.args.keeper.now; keeper = c.args.keeper.now } in
    let last : Kept _ = record { host = told.new.host; moments = g.C.Clock.left told.new.clock; failed = g.K.Keeper.faults told.new.keeper; keeper = told.new.keeper } in
    points_not _ g.K.Keeper.tells g.K.Keeper.serves g.K.Keeper.holds g.K.Keeper.passes c.args.player c.args.gameweek c.args.position c.request_of_points-asked.result told.result first last
    c.request_of_points-asked.ensures.value (sym c.in-None.ensures) told.ensures.heard

pub returns-clause-keeper : goal.returns-clause-keeper
returns-clause-keeper g c = λ is. rose_behind _ c.ask-told.result c.ask-told.ensures.caused is
