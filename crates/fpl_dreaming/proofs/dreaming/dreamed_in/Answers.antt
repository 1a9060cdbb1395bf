use Rattle.std.proofs.Common.{◌∙◌}
use Rattle.request_handler.specs.Kept.{Kept}
use Rattle.fpl_dreaming.proofs.AskedLemmas.{dream_lacks, dream_of_players}
use Rattle.fpl_dreaming.proofs.dreaming.dreamed_in.Goals as goal

pub returns-in-Ok-clause-dreamed : goal.returns-in-Ok-clause-dreamed
returns-in-Ok-clause-dreamed g c =
    let end = c.asked_on.new in
    let first : Kept _ = record { host = c.args.host.now; moments = g.C.Clock.left c.args.clock.now; failed = g.K.Keeper.faults c.args.keeper.now; keeper = c.args.keeper.now } in
    let last : Kept _ = record { host = end.host; moments = g.C.Clock.left end.clock; failed = g.K.Keeper.faults end.keeper; keeper = end.keeper } in
    dream_of_players _ g.K.Keeper.tells g.K.Keeper.serves g.K.Keeper.holds g.K.Keeper.passes c.args.gameweek c.deref.result.now (g.W.Sink.taken c.args.output.now) (g.W.Sink.taken end.output) c.asked_on.result first last
    (c.deref.ensures.value ∙ c.in-Ok.ensures.value) c.requires.fresh c.asked_on.ensures.asked

pub returns-in-Err-clause-dreamed : goal.returns-in-Err-clause-dreamed
returns-in-Err-clause-dreamed g c =
    dream_lacks _ g.K.Keeper.tells g.K.Keeper.serves g.K.Keeper.holds g.K.Keeper.passes c.args.gameweek (g.W.Sink.taken c.args.output.now) (record { host = c.args.host.now; moments = g.C.Clock.left c.args.clock.now; failed = g.K.Keeper.faults c.args.keeper.now; keeper = c.args.keeper.now })
