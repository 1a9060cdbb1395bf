use Rattle.std.proofs.Common.{◌≡◌, take}
use Rattle.season_views.proofs.views.deadlines_of.Given as goal

abbrev pub invariant-loop-place : goal.invariant-loop-place
invariant-loop-place l = l.deadlines ≡ take l.place l.calendar.deadlines
