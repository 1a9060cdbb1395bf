use Rattle.std.proofs.Common.{◌≡◌, ◌≤◌, ◌-◌, MatchOption, None, length}
use Rattle.fpl_run.proofs.ReadingLemmas.{Counting}
use Rattle.fpl_run.proofs.ServeLemmas.{Underway}
use Rattle.fpl_run.proofs.serve.serve_all.Given as goal

-- so many are left, and each of them is still to come where the doors tell it; and what those before counted
abbrev pub invariant-loop : goal.invariant-loop
invariant-loop g l =
    Underway _ g.K.Keeper.tells g.K.Keeper.serves g.K.Keeper.holds g.K.Keeper.passes (l.fn.connections - l.counter) l.fn.connections
    (record { host = l.fn.host.host; moments = g.C.Clock.left l.fn.clock; failed = g.K.Keeper.faults l.fn.keeper; keeper = l.fn.keeper })
    (record { host = l.host.host; moments = g.C.Clock.left l.clock; failed = g.K.Keeper.faults l.keeper; keeper = l.keeper })
    (record { coming = g.D.Doors.coming l.fn.doors; given_back = g.D.Doors.given_back l.fn.doors; faults = g.D.Doors.faults l.fn.doors })
    (record { coming = g.D.Doors.coming l.doors; given_back = g.D.Doors.given_back l.doors; faults = g.D.Doors.faults l.doors })
    × MatchOption (g.D.Doors.coming l.doors) ((d : _) → g.D.Doors.coming d ≡ None) (λ all. l.fn.connections - l.counter ≤ length all)
    × Counting _ (l.fn.connections - l.counter) l.fn.connections
    (record { kept = record { host = l.fn.host.host; moments = g.C.Clock.left l.fn.clock; failed = g.K.Keeper.faults l.fn.keeper; keeper = l.fn.keeper }; reads = l.fn.steps })
    (record { kept = record { host = l.host.host; moments = g.C.Clock.left l.clock; failed = g.K.Keeper.faults l.keeper; keeper = l.keeper }; reads = l.steps })
    (record { coming = g.D.Doors.coming l.fn.doors; given_back = g.D.Doors.given_back l.fn.doors; faults = g.D.Doors.faults l.fn.doors })
    (record { coming = g.D.Doors.coming l.doors; given_back = g.D.Doors.given_back l.doors; faults = g.D.Doors.faults l.doors })
