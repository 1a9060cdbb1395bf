use Rattle.request_handler.specs.Kept.{Kept}
use Rattle.request_handler.specs.Looks.{Counted}
use Rattle.fpl_run.specs.Serve.{DoorState}
use Rattle.fpl_run.proofs.ReadingLemmas.{one_counted}
use Rattle.fpl_run.proofs.ServeLemmas.{one_visit}
use Rattle.fpl_run.proofs.serve.serve_one.Goals as goal

pub returns-clause-served : goal.returns-clause-served
returns-clause-served g c =
    let told = c.talk-ending.new in
    let first : Kept _ = record { host = c.args.host.now.host; moments = g.C.Clock.left c.args.clock.now; failed = g.K.Keeper.faults c.args.keeper.now; keeper = c.args.keeper.now } in
    let last : Kept _ = record { host = told.host.host; moments = g.C.Clock.left told.clock; failed = g.K.Keeper.faults told.keeper; keeper = told.keeper } in
    let before : DoorState = record { coming = g.D.Doors.coming c.args.doors.now; given_back = g.D.Doors.given_back c.args.doors.now; faults = g.D.Doors.faults c.args.doors.now } in
    let middle : DoorState = record { coming = g.D.Doors.coming c.next.new.self; given_back = g.D.Doors.given_back c.next.new.self; faults = g.D.Doors.faults c.next.new.self } in
    let after : DoorState = record { coming = g.D.Doors.coming c.give_back.new.self; given_back = g.D.Doors.given_back c.give_back.new.self; faults = g.D.Doors.faults c.give_back.new.self } in
    let opened = c.in_ok-source.ensures in
    one_visit _ g.K.Keeper.tells g.K.Keeper.serves g.K.Keeper.holds g.K.Keeper.passes first last before middle after _ _ _ _ _ _ _ _ _ opened.opened opened.back opened.cause.only
    c.give_back.ensures.coming c.give_back.ensures.back c.give_back.ensures.faults opened.counts.0 opened.counts.1
    c.talk-ending.ensures.leads c.talk-ending.ensures.exact c.talk-ending.ensures.read c.talk-ending.ensures.write

pub returns-clause-counts : goal.returns-clause-counts
returns-clause-counts g c =
    let told = c.talk-ending.new in
    let first : Counted _ = record {
      kept = record { host = c.args.host.now.host; moments = g.C.Clock.left c.args.clock.now; failed = g.K.Keeper.faults c.args.keeper.now; keeper = c.args.keeper.now };
      reads = c.args.steps.now;
    } in
    let last : Counted _ = record {
      kept = record { host = told.host.host; moments = g.C.Clock.left told.clock; failed = g.K.Keeper.faults told.keeper; keeper = told.keeper };
      reads = told.steps;
    } in
    let before : DoorState = record { coming = g.D.Doors.coming c.args.doors.now; given_back = g.D.Doors.given_back c.args.doors.now; faults = g.D.Doors.faults c.args.doors.now } in
    let middle : DoorState = record { coming = g.D.Doors.coming c.next.new.self; given_back = g.D.Doors.given_back c.next.new.self; faults = g.D.Doors.faults c.next.new.self } in
    let after : DoorState = record { coming = g.D.Doors.coming c.give_back.new.self; given_back = g.D.Doors.given_back c.give_back.new.self; faults = g.D.Doors.faults c.give_back.new.self } in
    let opened = c.in_ok-source.ensures in
    one_counted _ c.sessions_answer.ensures first last before middle after _ _ _ _ _ _ _ opened.opened opened.back
    c.give_back.ensures.coming c.give_back.ensures.back c.talk-ending.ensures.counts
