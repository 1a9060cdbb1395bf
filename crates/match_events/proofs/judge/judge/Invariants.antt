use Rattle.std.proofs.Common.{◌≡◌, drop, take}
use Rattle.match_events.specs.Refusals.{broken_behind, broken_in}
use Rattle.match_events.proofs.judge.judge.Given as goal

-- what is left to judge decides
abbrev pub invariant-loop-place : goal.invariant-loop-place
invariant-loop-place l = broken_behind (take l.place l.events) (drop l.place l.events) ≡ broken_in l.fn.events
