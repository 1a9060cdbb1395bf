use Rattle.std.proofs.Common.{refl, sym}
use Rattle.request_handler.specs.Kept.{Kept}
use Rattle.local_requests.proofs.AskingLemmas.{rose_behind}
use Rattle.fpl_dreaming.specs.Rows.{position_in}
use Rattle.fpl_dreaming.proofs.AskedLemmas.{fresh_shown, player_not, player_shown}
use Rattle.fpl_dreaming.proofs.rows.ask_row.Goals as goal

pub ask_points-requires : goal.ask_points-requires
ask_points-requires g c =
    record { fresh = fresh_shown position_in c.ask-told.new.host.stale c.ask-told.result c.in-Some.position refl refl c.ask-told.ensures.stale (sym c.in-Some.ensures) }

pub returns-in-Some-clause-asked : goal.returns-in-Some-clause-asked
returns-in-Some-clause-asked g c =
    let told = c.ask-told in
    let end = c.ask_points.new in
    let first : Kept _ = record { host = c.args.host.now; moments = g.C.Clock.left c.args.clock.now; failed = g.K.Keeper.faults c.args.keeper.now; keeper = c.args.keeper.now } in
    let mid : Kept _ = record { host = told.new.host; moments = g.C.Clock.left told.new.clock; failed = g.K.Keeper.faults told.new.keeper; keeper = told.new.keeper } in
    let last : Kept _ = record { host = end.host; moments = g.C.Clock.left end.clock; failed = g.K.Keeper.faults end.keeper; keeper = end.keeper } in
    player_shown _ g.K.Keeper.tells g.K.Keeper.serves g.K.Keeper.holds g.K.Keeper.passes c.args.player c.args.gameweek c.request_of_player-asked.result told.result c.in-Some.position c.ask_points.result first mid last
    c.request_of_player-asked.ensures.value (sym c.in-Some.ensures) told.ensures.heard c.ask_points.ensures.asked

pub returns-clause-asked : goal.returns-clause-asked
returns-clause-asked g c =
    let told = c.ask-told in
    let first : Kept _ = record { host = c.args.host.now; moments = g.C.Clock.left c.args.clock.now; failed = g.K.Keeper.faults c.args.keeper.now; keeper = c.args.keeper.now } in
    let last : Kept _ = record { host = told.new.host; moments = g.C.Clock.left told.new.clock; failed = g.K.Keeper.faults told.new.keeper; keeper = told.new.keeper } in
    player_not _ g.K.Keeper.tells g.K.Keeper.serves g.K.Keeper.holds g.K.Keeper.passes c.args.player c.args.gameweek c.request_of_player-asked.result told.result first last
    c.request_of_player-asked.ensures.value (sym c.in-None.ensures) told.ensures.heard

pub returns-clause-keeper : goal.returns-clause-keeper
returns-clause-keeper g c = λ is. rose_behind _ c.ask-told.result c.ask-told.ensures.caused is
