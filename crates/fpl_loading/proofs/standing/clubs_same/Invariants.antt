use Rattle.std.proofs.Common.{◌≡◌, map, take}
use Rattle.fpl_loading.specs.Standing.{is_same_club}
use Rattle.fpl_loading.proofs.standing.clubs_same.Given as goal

abbrev pub invariant-loop-club : goal.invariant-loop-club
invariant-loop-club l = l.rows ≡ map (is_same_club l.season) (take l.club-index l.clubs)
