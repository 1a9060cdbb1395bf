use Rattle.std.proofs.Common.{◌≡◌, reverse, take}
use Rattle.match_events.specs.Lines.{side_back, side_of}
use Rattle.match_events.proofs.conceding.side_of.Given as goal

-- what is left to look through gives the side
abbrev pub invariant-loop-place : goal.invariant-loop-place
invariant-loop-place l = side_back (reverse (take l.place l.events)) l.sought ≡ side_of l.fn.events l.fn.player
