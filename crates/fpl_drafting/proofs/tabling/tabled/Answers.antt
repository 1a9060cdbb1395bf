use Rattle.std.proofs.Common.{refl, sym}
use Rattle.local_requests.proofs.AskingLemmas.{rose_behind}
use Rattle.request_handler.specs.Kept.{Kept}
use Rattle.fpl_drafting.specs.Drafting.{locked_in}
use Rattle.fpl_drafting.proofs.StepLemmas.{fresh_shown, rose_since}
use Rattle.fpl_drafting.proofs.TellLemmas.{season_not, season_shown}
use Rattle.fpl_drafting.proofs.tabling.tabled.Goals as goal

pub tabled_over-requires-clause-fresh : goal.tabled_over-requires-clause-fresh
tabled_over-requires-clause-fresh g c =
    fresh_shown locked_in c.ask-told.new.host.stale c.ask-told.result c.in-Some.locked refl refl c.ask-told.ensures.stale (sym c.in-Some.ensures.value)

pub returns-in-Some-clause-tabled : goal.returns-in-Some-clause-tabled
returns-in-Some-clause-tabled g c =
    let told = c.ask-told in
    let end = c.tabled_over.new in
    let first : Kept _ = record { host = c.args.host.now; moments = g.C.Clock.left c.args.clock.now; failed = g.K.Keeper.faults c.args.keeper.now; keeper = c.args.keeper.now } in
    let mid : Kept _ = record { host = told.new.host; moments = g.C.Clock.left told.new.clock; failed = g.K.Keeper.faults told.new.keeper; keeper = told.new.keeper } in
    let last : Kept _ = record { host = end.host; moments = g.C.Clock.left end.clock; failed = g.K.Keeper.faults end.keeper; keeper = end.keeper } in
    season_shown _ g.K.Keeper.tells g.K.Keeper.serves g.K.Keeper.holds g.K.Keeper.passes c.args.draft.now told.result c.in-Some.locked c.tabled_over.result
    (g.W.Sink.taken c.args.output.now) (g.W.Sink.taken end.output) first mid last (sym c.in-Some.ensures.value) told.ensures.heard c.tabled_over.ensures.tabled

pub returns-clause-tabled : goal.returns-clause-tabled
returns-clause-tabled g c =
    let told = c.ask-told in
    let end = c.halted in
    let first : Kept _ = record { host = c.args.host.now; moments = g.C.Clock.left c.args.clock.now; failed = g.K.Keeper.faults c.args.keeper.now; keeper = c.args.keeper.now } in
    let last : Kept _ = record { host = told.new.host; moments = g.C.Clock.left told.new.clock; failed = g.K.Keeper.faults told.new.keeper; keeper = told.new.keeper } in
    season_not _ g.K.Keeper.tells g.K.Keeper.serves g.K.Keeper.holds g.K.Keeper.passes c.args.draft.now told.result end.result
    (g.W.Sink.taken c.args.output.now) (g.W.Sink.taken end.new.output) first last (sym c.in-None.ensures.value) end.ensures.ends told.ensures.heard
