use Rattle.std.proofs.Common.{◌≡◌, take}
use Rattle.season_book.proofs.lists.are_same_moments.Given as goal

abbrev pub invariant-loop-place : goal.invariant-loop-place
invariant-loop-place l = take l.place l.others ≡ take l.place l.moments
