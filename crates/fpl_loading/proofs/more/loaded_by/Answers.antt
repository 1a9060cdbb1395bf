use Rattle.request_handler.specs.Kept.{Kept}
use Rattle.fpl_loading.proofs.AddingLemmas.{by_more, by_number}
use Rattle.fpl_loading.proofs.more.loaded_by.Goals as goal

pub returns-then-more-clause-loaded : goal.returns-then-more-clause-loaded
returns-then-more-clause-loaded g c =
    let end = c.loaded_more.new in
    let first : Kept _ = record { host = c.args.host.now; moments = g.C.Clock.left c.args.clock.now; failed = g.K.Keeper.faults c.args.keeper.now; keeper = c.args.keeper.now } in
    let last : Kept _ = record { host = end.host; moments = g.C.Clock.left end.clock; failed = g.K.Keeper.faults end.keeper; keeper = end.keeper } in
    by_more _ g.K.Keeper.tells g.K.Keeper.serves g.K.Keeper.holds g.K.Keeper.passes first last c.args.more c.args.commands.items (g.W.Sink.taken c.args.output.now) (g.W.Sink.taken end.output) c.loaded_more.result.status c.loaded_more.result.note
    c.if-more.true c.loaded_more.ensures.loaded

pub returns-else-more-clause-loaded : goal.returns-else-more-clause-loaded
returns-else-more-clause-loaded g c =
    let end = c.loaded.new in
    let first : Kept _ = record { host = c.args.host.now; moments = g.C.Clock.left c.args.clock.now; failed = g.K.Keeper.faults c.args.keeper.now; keeper = c.args.keeper.now } in
    let last : Kept _ = record { host = end.host; moments = g.C.Clock.left end.clock; failed = g.K.Keeper.faults end.keeper; keeper = end.keeper } in
    by_number _ g.K.Keeper.tells g.K.Keeper.serves g.K.Keeper.holds g.K.Keeper.passes first last c.args.more c.args.commands.items (g.W.Sink.taken c.args.output.now) (g.W.Sink.taken end.output) c.loaded.result.status c.loaded.result.note
    c.if-more.false c.loaded.ensures.loaded
