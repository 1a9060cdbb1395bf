use Rattle.std.proofs.Common.{◌≡◌, take}
use Rattle.record_changes.proofs.facts.deadlines_of.Given as goal

abbrev pub invariant-loop-place : goal.invariant-loop-place
invariant-loop-place l = l.moments ≡ take l.place l.calendar.deadlines
