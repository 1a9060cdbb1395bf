use Rattle.std.proofs.Common.{◌∙◌, refl, sym}
use Rattle.request_handler.specs.Kept.{Kept}
use Rattle.fpl_dreaming.specs.Rows.{locked_in}
use Rattle.fpl_dreaming.proofs.AskedLemmas.{fresh_shown, season_not, season_open, season_shown}
use Rattle.fpl_dreaming.proofs.dreaming.dreamed.Goals as goal

pub dreamed_in-requires : goal.dreamed_in-requires
dreamed_in-requires g c =
    record { fresh = fresh_shown locked_in c.ask-told.new.host.stale c.ask-told.result c.in-Some.locked refl refl c.ask-told.ensures.stale (sym c.in-Some.ensures) }

pub returns-then-is_locked-clause-dreamed : goal.returns-then-is_locked-clause-dreamed
returns-then-is_locked-clause-dreamed g c =
    let told = c.ask-told in
    let end = c.dreamed_in.new in
    let first : Kept _ = record { host = c.args.host.now; moments = g.C.Clock.left c.args.clock.now; failed = g.K.Keeper.faults c.args.keeper.now; keeper = c.args.keeper.now } in
    let mid : Kept _ = record { host = told.new.host; moments = g.C.Clock.left told.new.clock; failed = g.K.Keeper.faults told.new.keeper; keeper = told.new.keeper } in
    let last : Kept _ = record { host = end.host; moments = g.C.Clock.left end.clock; failed = g.K.Keeper.faults end.keeper; keeper = end.keeper } in
    season_shown _ g.K.Keeper.tells g.K.Keeper.serves g.K.Keeper.holds g.K.Keeper.passes c.args.gameweek told.result c.in-Some.locked (g.W.Sink.taken c.args.output.now) (g.W.Sink.taken end.output) c.dreamed_in.result first mid last
    (sym c.in-Some.ensures) (sym c.is_locked.ensures ∙ c.if-is_locked.true) told.ensures.heard c.dreamed_in.ensures.dreamed

pub returns-in-Some-clause-dreamed : goal.returns-in-Some-clause-dreamed
returns-in-Some-clause-dreamed g c =
    let told = c.ask-told in
    let end = c.tell_unknown in
    let first : Kept _ = record { host = c.args.host.now; moments = g.C.Clock.left c.args.clock.now; failed = g.K.Keeper.faults c.args.keeper.now; keeper = c.args.keeper.now } in
    let last : Kept _ = record { host = told.new.host; moments = g.C.Clock.left told.new.clock; failed = g.K.Keeper.faults told.new.keeper; keeper = told.new.keeper } in
    season_open _ g.K.Keeper.tells g.K.Keeper.serves g.K.Keeper.holds g.K.Keeper.passes c.args.gameweek told.result c.in-Some.locked (g.W.Sink.taken c.args.output.now) (g.W.Sink.taken end.new.output) end.result first last
    (sym c.in-Some.ensures) (sym c.is_locked.ensures ∙ c.if-is_locked.false) end.ensures.printed told.ensures.heard

pub returns-clause-dreamed : goal.returns-clause-dreamed
returns-clause-dreamed g c =
    let told = c.ask-told in
    let end = c.halted in
    let first : Kept _ = record { host = c.args.host.now; moments = g.C.Clock.left c.args.clock.now; failed = g.K.Keeper.faults c.args.keeper.now; keeper = c.args.keeper.now } in
    let last : Kept _ = record { host = told.new.host; moments = g.C.Clock.left told.new.clock; failed = g.K.Keeper.faults told.new.keeper; keeper = told.new.keeper } in
    season_not _ g.K.Keeper.tells g.K.Keeper.serves g.K.Keeper.holds g.K.Keeper.passes c.args.gameweek told.result (g.W.Sink.taken c.args.output.now) (g.W.Sink.taken end.new.output) end.result first last
    (sym c.in-None.ensures) end.ensures.ends told.ensures.heard
