use Rattle.request_handler.specs.Kept.{Kept}
use Rattle.fpl_events.proofs.SendingLemmas.{changed_lacks, changed_sent}
use Rattle.fpl_events.proofs.sending.send_changed.Goals as goal

pub returns-in-Ok-clause-sent : goal.returns-in-Ok-clause-sent
returns-in-Ok-clause-sent g c =
    let first : Kept _ = record { host = c.args.host.now; moments = g.C.Clock.left c.args.clock.now; failed = g.K.Keeper.faults c.args.keeper.now; keeper = c.args.keeper.now } in
    let last : Kept _ = record { host = c.send_all.new.host; moments = g.C.Clock.left c.send_all.new.clock; failed = g.K.Keeper.faults c.send_all.new.keeper; keeper = c.send_all.new.keeper } in
    changed_sent _ g.K.Keeper.tells g.K.Keeper.serves g.K.Keeper.holds g.K.Keeper.passes c.args.fixture c.args.events.now c.take_changed.new.self c.in-Ok.players.items c.as_slice.result.now
    (g.W.Sink.taken c.args.output.now) (g.W.Sink.taken c.send_all.new.output) c.send_all.result first last c.as_slice.ensures.value c.in-Ok.ensures.changed c.in-Ok.ensures.told c.send_all.ensures.sent

pub returns-in-Err-clause-sent : goal.returns-in-Err-clause-sent
returns-in-Err-clause-sent g c =
    let kept : Kept _ = record { host = c.args.host.now; moments = g.C.Clock.left c.args.clock.now; failed = g.K.Keeper.faults c.args.keeper.now; keeper = c.args.keeper.now } in
    changed_lacks _ g.K.Keeper.tells g.K.Keeper.serves g.K.Keeper.holds g.K.Keeper.passes c.args.fixture c.args.events.now c.take_changed.new.self (g.W.Sink.taken c.args.output.now) kept
