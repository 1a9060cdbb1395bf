use Rattle.std.proofs.Common.{◌≡◌, take}
use Rattle.season_book.proofs.lists.copy_of_clubs.Given as goal

abbrev pub invariant-loop-club : goal.invariant-loop-club
invariant-loop-club l = l.copy ≡ take l.club-index l.club-items
