use Rattle.std.proofs.Common.{rules, arith, ◌≡◌, ◌≢◌, ◌+◌, ◌-◌, suc, subst, Ok}
use Rattle.fpl_http.specs.declared.ending.Ending.TheVariants as ends
use Rattle.request_handler.specs.Kept.{Kept, LeadsAll}
use Rattle.request_handler.specs.Looks.{Counted}
use Rattle.request_handler.specs.Replying.{IsReplyUntil}
use Rattle.request_handler.specs.Whole.{IsKeptReply}
use Rattle.fpl_run.specs.Serve.{DoorState, IsAskedOnce}
use Rattle.fpl_run.proofs.ReadingLemmas.{counting_end, counting_fail, counting_more, counting_stop}
use Rattle.fpl_run.proofs.ServeLemmas.{remain_more, underway_end, underway_fail, underway_more, underway_stop}
use Rattle.fpl_run.proofs.serve.serve_all.Goals as goal

pub returns-then-eq-clause-served : goal.returns-then-eq-clause-served
returns-then-eq-clause-served g c =
    let left = c.args.connections - c.loop.counter in
    let count = c.args.connections - (c.loop.counter + 1) in
    let more : left ≡ suc count = omega (arith, c.loop-test.true) in
    let none : c.in-Ok.ending ≡ ends.Memory = search rules in
    let one = c.serve_one.new in
    let first : Kept _ = record { host = c.args.host.now.host; moments = g.C.Clock.left c.args.clock.now; failed = g.K.Keeper.faults c.args.keeper.now; keeper = c.args.keeper.now } in
    let mid : Kept _ = record { host = c.loop.host.host; moments = g.C.Clock.left c.loop.clock; failed = g.K.Keeper.faults c.loop.keeper; keeper = c.loop.keeper } in
    let last : Kept _ = record { host = one.host.host; moments = g.C.Clock.left one.clock; failed = g.K.Keeper.faults one.keeper; keeper = one.keeper } in
    let before : DoorState = record { coming = g.D.Doors.coming c.args.doors.now; given_back = g.D.Doors.given_back c.args.doors.now; faults = g.D.Doors.faults c.args.doors.now } in
    let between : DoorState = record { coming = g.D.Doors.coming c.loop.doors; given_back = g.D.Doors.given_back c.loop.doors; faults = g.D.Doors.faults c.loop.doors } in
    let after : DoorState = record { coming = g.D.Doors.coming one.doors; given_back = g.D.Doors.given_back one.doors; faults = g.D.Doors.faults one.doors } in
    underway_stop _ g.K.Keeper.tells g.K.Keeper.serves g.K.Keeper.holds g.K.Keeper.passes left count c.args.connections first mid last before between after more c.loop.invariant.0
    (subst (λ e. LeadsAll g.K.Keeper.tells g.K.Keeper.serves g.K.Keeper.holds g.K.Keeper.passes mid last (IsAskedOnce IsReplyUntil between after (Ok e)) (IsAskedOnce IsKeptReply between after (Ok e))) none c.in-Ok.ensures.served)

pub returns-in-Err-clause-served : goal.returns-in-Err-clause-served
returns-in-Err-clause-served g c =
    let left = c.args.connections - c.loop.counter in
    let count = c.args.connections - (c.loop.counter + 1) in
    let more : left ≡ suc count = omega (arith, c.loop-test.true) in
    let one = c.serve_one.new in
    let first : Kept _ = record { host = c.args.host.now.host; moments = g.C.Clock.left c.args.clock.now; failed = g.K.Keeper.faults c.args.keeper.now; keeper = c.args.keeper.now } in
    let mid : Kept _ = record { host = c.loop.host.host; moments = g.C.Clock.left c.loop.clock; failed = g.K.Keeper.faults c.loop.keeper; keeper = c.loop.keeper } in
    let last : Kept _ = record { host = one.host.host; moments = g.C.Clock.left one.clock; failed = g.K.Keeper.faults one.keeper; keeper = one.keeper } in
    let before : DoorState = record { coming = g.D.Doors.coming c.args.doors.now; given_back = g.D.Doors.given_back c.args.doors.now; faults = g.D.Doors.faults c.args.doors.now } in
    let between : DoorState = record { coming = g.D.Doors.coming c.loop.doors; given_back = g.D.Doors.given_back c.loop.doors; faults = g.D.Doors.faults c.loop.doors } in
    let after : DoorState = record { coming = g.D.Doors.coming one.doors; given_back = g.D.Doors.given_back one.doors; faults = g.D.Doors.faults one.doors } in
    underway_fail _ g.K.Keeper.tells g.K.Keeper.serves g.K.Keeper.holds g.K.Keeper.passes left count c.args.connections first mid last before between after more c.loop.invariant.0 c.in-Err.ensures.served

pub loop-preserved : goal.loop-preserved
loop-preserved g c =
    let left = c.args.connections - c.loop.counter in
    let count = c.args.connections - (c.loop.counter + 1) in
    let more : left ≡ suc count = omega (arith, c.loop-test.true) in
    let fits : c.in-Ok.ending ≢ ends.Memory = search rules in
    let one = c.serve_one.new in
    let first : Kept _ = record { host = c.args.host.now.host; moments = g.C.Clock.left c.args.clock.now; failed = g.K.Keeper.faults c.args.keeper.now; keeper = c.args.keeper.now } in
    let mid : Kept _ = record { host = c.loop.host.host; moments = g.C.Clock.left c.loop.clock; failed = g.K.Keeper.faults c.loop.keeper; keeper = c.loop.keeper } in
    let last : Kept _ = record { host = one.host.host; moments = g.C.Clock.left one.clock; failed = g.K.Keeper.faults one.keeper; keeper = one.keeper } in
    let first_counted : Counted _ = record { kept = first; reads = c.args.steps.now } in
    let mid_counted : Counted _ = record { kept = mid; reads = c.loop.steps } in
    let last_counted : Counted _ = record { kept = last; reads = one.steps } in
    let before : DoorState = record { coming = g.D.Doors.coming c.args.doors.now; given_back = g.D.Doors.given_back c.args.doors.now; faults = g.D.Doors.faults c.args.doors.now } in
    let between : DoorState = record { coming = g.D.Doors.coming c.loop.doors; given_back = g.D.Doors.given_back c.loop.doors; faults = g.D.Doors.faults c.loop.doors } in
    let after : DoorState = record { coming = g.D.Doors.coming one.doors; given_back = g.D.Doors.given_back one.doors; faults = g.D.Doors.faults one.doors } in (
      underway_more _ g.K.Keeper.tells g.K.Keeper.serves g.K.Keeper.holds g.K.Keeper.passes left count c.args.connections first mid last before between after c.in-Ok.ending more c.loop.invariant.0 fits c.in-Ok.ensures.served c.in-Ok.ensures.kept,
      remain_more (g.D.Doors.coming c.loop.doors) (g.D.Doors.coming one.doors) left count more (λ law. law one.doors) c.in-Ok.ensures.coming c.loop.invariant.1,
      counting_more _ left count c.args.connections first_counted mid_counted last_counted before between after c.in-Ok.ending more c.loop.invariant.2 c.in-Ok.ensures.counts,
    )

pub returns-clause-served : goal.returns-clause-served
returns-clause-served g c =
    let first : Kept _ = record { host = c.args.host.now.host; moments = g.C.Clock.left c.args.clock.now; failed = g.K.Keeper.faults c.args.keeper.now; keeper = c.args.keeper.now } in
    let last : Kept _ = record { host = c.loop.host.host; moments = g.C.Clock.left c.loop.clock; failed = g.K.Keeper.faults c.loop.keeper; keeper = c.loop.keeper } in
    let before : DoorState = record { coming = g.D.Doors.coming c.args.doors.now; given_back = g.D.Doors.given_back c.args.doors.now; faults = g.D.Doors.faults c.args.doors.now } in
    let after : DoorState = record { coming = g.D.Doors.coming c.loop.doors; given_back = g.D.Doors.given_back c.loop.doors; faults = g.D.Doors.faults c.loop.doors } in
    underway_end _ g.K.Keeper.tells g.K.Keeper.serves g.K.Keeper.holds g.K.Keeper.passes (c.args.connections - c.loop.counter) c.args.connections first last before after c.loop.invariant.0 (omega (arith, c.loop-test.false, c.loop.auto.counter-end))

pub returns-then-eq-clause-counts : goal.returns-then-eq-clause-counts
returns-then-eq-clause-counts g c =
    let left = c.args.connections - c.loop.counter in
    let count = c.args.connections - (c.loop.counter + 1) in
    let more : left ≡ suc count = omega (arith, c.loop-test.true) in
    let one = c.serve_one.new in
    let first : Counted _ = record {
      kept = record { host = c.args.host.now.host; moments = g.C.Clock.left c.args.clock.now; failed = g.K.Keeper.faults c.args.keeper.now; keeper = c.args.keeper.now };
      reads = c.args.steps.now;
    } in
    let mid : Counted _ = record {
      kept = record { host = c.loop.host.host; moments = g.C.Clock.left c.loop.clock; failed = g.K.Keeper.faults c.loop.keeper; keeper = c.loop.keeper };
      reads = c.loop.steps;
    } in
    let last : Counted _ = record {
      kept = record { host = one.host.host; moments = g.C.Clock.left one.clock; failed = g.K.Keeper.faults one.keeper; keeper = one.keeper };
      reads = one.steps;
    } in
    let before : DoorState = record { coming = g.D.Doors.coming c.args.doors.now; given_back = g.D.Doors.given_back c.args.doors.now; faults = g.D.Doors.faults c.args.doors.now } in
    let between : DoorState = record { coming = g.D.Doors.coming c.loop.doors; given_back = g.D.Doors.given_back c.loop.doors; faults = g.D.Doors.faults c.loop.doors } in
    let after : DoorState = record { coming = g.D.Doors.coming one.doors; given_back = g.D.Doors.given_back one.doors; faults = g.D.Doors.faults one.doors } in
    counting_stop _ left count c.args.connections first mid last before between after c.in-Ok.ending more c.loop.invariant.2 c.in-Ok.ensures.counts

pub returns-in-Err-clause-counts : goal.returns-in-Err-clause-counts
returns-in-Err-clause-counts g c =
    let one = c.serve_one.new in
    let first : Counted _ = record {
      kept = record { host = c.args.host.now.host; moments = g.C.Clock.left c.args.clock.now; failed = g.K.Keeper.faults c.args.keeper.now; keeper = c.args.keeper.now };
      reads = c.args.steps.now;
    } in
    let mid : Counted _ = record {
      kept = record { host = c.loop.host.host; moments = g.C.Clock.left c.loop.clock; failed = g.K.Keeper.faults c.loop.keeper; keeper = c.loop.keeper };
      reads = c.loop.steps;
    } in
    let last : Counted _ = record {
      kept = record { host = one.host.host; moments = g.C.Clock.left one.clock; failed = g.K.Keeper.faults one.keeper; keeper = one.keeper };
      reads = one.steps;
    } in
    let before : DoorState = record { coming = g.D.Doors.coming c.args.doors.now; given_back = g.D.Doors.given_back c.args.doors.now; faults = g.D.Doors.faults c.args.doors.now } in
    let between : DoorState = record { coming = g.D.Doors.coming c.loop.doors; given_back = g.D.Doors.given_back c.loop.doors; faults = g.D.Doors.faults c.loop.doors } in
    let after : DoorState = record { coming = g.D.Doors.coming one.doors; given_back = g.D.Doors.given_back one.doors; faults = g.D.Doors.faults one.doors } in
    counting_fail _ (c.args.connections - c.loop.counter) c.args.connections first mid last before between after c.loop.invariant.2 c.in-Err.ensures.counts

pub returns-clause-counts : goal.returns-clause-counts
returns-clause-counts g c =
    let first : Counted _ = record {
      kept = record { host = c.args.host.now.host; moments = g.C.Clock.left c.args.clock.now; failed = g.K.Keeper.faults c.args.keeper.now; keeper = c.args.keeper.now };
      reads = c.args.steps.now;
    } in
    let last : Counted _ = record {
      kept = record { host = c.loop.host.host; moments = g.C.Clock.left c.loop.clock; failed = g.K.Keeper.faults c.loop.keeper; keeper = c.loop.keeper };
      reads = c.loop.steps;
    } in
    let before : DoorState = record { coming = g.D.Doors.coming c.args.doors.now; given_back = g.D.Doors.given_back c.args.doors.now; faults = g.D.Doors.faults c.args.doors.now } in
    let after : DoorState = record { coming = g.D.Doors.coming c.loop.doors; given_back = g.D.Doors.given_back c.loop.doors; faults = g.D.Doors.faults c.loop.doors } in
    counting_end _ (c.args.connections - c.loop.counter) c.args.connections first last before after c.loop.invariant.2
