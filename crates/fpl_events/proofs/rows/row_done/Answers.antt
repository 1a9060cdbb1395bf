use Rattle.request_handler.specs.Kept.{Kept}
use Rattle.fpl_events.proofs.PlayingLemmas.{row_inserts, row_removes, row_sends}
use Rattle.fpl_events.proofs.rows.row_done.Goals as goal

pub returns-in-Insert-clause-done : goal.returns-in-Insert-clause-done
returns-in-Insert-clause-done g c =
    let kept : Kept _ = record { host = c.args.host.now; moments = g.C.Clock.left c.args.clock.now; failed = g.K.Keeper.faults c.args.keeper.now; keeper = c.args.keeper.now } in
    row_inserts _ g.K.Keeper.tells g.K.Keeper.serves g.K.Keeper.holds g.K.Keeper.passes c.args.fixture c.args.number c.in-Insert.place c.in-Insert.event c.args.row.now c.args.events.now c.inserted.new.events
    (g.W.Sink.taken c.args.output.now) (g.W.Sink.taken c.inserted.new.output) c.inserted.result kept c.in-Insert.is c.inserted.ensures.done

pub returns-in-Remove-clause-done : goal.returns-in-Remove-clause-done
returns-in-Remove-clause-done g c =
    let kept : Kept _ = record { host = c.args.host.now; moments = g.C.Clock.left c.args.clock.now; failed = g.K.Keeper.faults c.args.keeper.now; keeper = c.args.keeper.now } in
    row_removes _ g.K.Keeper.tells g.K.Keeper.serves g.K.Keeper.holds g.K.Keeper.passes c.args.fixture c.args.number c.in-Remove.place c.args.row.now c.args.events.now c.removed.new.events
    (g.W.Sink.taken c.args.output.now) (g.W.Sink.taken c.removed.new.output) c.removed.result kept c.in-Remove.is c.removed.ensures.done

pub returns-in-Send-clause-done : goal.returns-in-Send-clause-done
returns-in-Send-clause-done g c =
    let first : Kept _ = record { host = c.args.host.now; moments = g.C.Clock.left c.args.clock.now; failed = g.K.Keeper.faults c.args.keeper.now; keeper = c.args.keeper.now } in
    let last : Kept _ = record { host = c.send_changed.new.host; moments = g.C.Clock.left c.send_changed.new.clock; failed = g.K.Keeper.faults c.send_changed.new.keeper; keeper = c.send_changed.new.keeper } in
    row_sends _ g.K.Keeper.tells g.K.Keeper.serves g.K.Keeper.holds g.K.Keeper.passes c.args.fixture c.args.number c.args.row.now c.args.events.now c.send_changed.new.events
    (g.W.Sink.taken c.args.output.now) (g.W.Sink.taken c.send_changed.new.output) c.send_changed.result first last c.in-Send.is c.send_changed.ensures.sent
