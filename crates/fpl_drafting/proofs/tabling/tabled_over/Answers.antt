use Rattle.std.proofs.Common.{◌∙◌}
use Rattle.request_handler.specs.Kept.{Kept}
use Rattle.fpl_drafting.proofs.TellLemmas.{tabled_lacks, tabled_scored}
use Rattle.fpl_drafting.proofs.tabling.tabled_over.Goals as goal

pub returns-in-Ok-clause-tabled : goal.returns-in-Ok-clause-tabled
returns-in-Ok-clause-tabled g c =
    let end = c.scored.new in
    let first : Kept _ = record { host = c.args.host.now; moments = g.C.Clock.left c.args.clock.now; failed = g.K.Keeper.faults c.args.keeper.now; keeper = c.args.keeper.now } in
    let last : Kept _ = record { host = end.host; moments = g.C.Clock.left end.clock; failed = g.K.Keeper.faults end.keeper; keeper = end.keeper } in
    tabled_scored _ g.K.Keeper.tells g.K.Keeper.serves g.K.Keeper.holds g.K.Keeper.passes c.args.draft.now c.args.locked c.scored.result c.as_slice.result.now
    (g.W.Sink.taken c.args.output.now) (g.W.Sink.taken end.output) first last (c.as_slice.ensures.value ∙ c.in-Ok.ensures) c.scored.ensures.scored

pub returns-in-Err-clause-tabled : goal.returns-in-Err-clause-tabled
returns-in-Err-clause-tabled g c =
    let kept : Kept _ = record { host = c.args.host.now; moments = g.C.Clock.left c.args.clock.now; failed = g.K.Keeper.faults c.args.keeper.now; keeper = c.args.keeper.now } in
    tabled_lacks _ g.K.Keeper.tells g.K.Keeper.serves g.K.Keeper.holds g.K.Keeper.passes c.args.draft.now c.args.locked (g.W.Sink.taken c.args.output.now) kept
