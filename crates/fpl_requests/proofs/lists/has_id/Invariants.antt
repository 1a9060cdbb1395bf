use Rattle.std.proofs.Common.{◌≡◌, ◌==◌, drop}
use Rattle.std.specs.List.{list_any}
use Rattle.season_book.specs.Commands.{club_ids}
use Rattle.fpl_requests.proofs.lists.has_id.Given as goal

-- what is left decides
abbrev pub invariant-loop-club : goal.invariant-loop-club
invariant-loop-club l = list_any (λ y. y == l.id) (club_ids (drop l.club-index l.clubs)) ≡ list_any (λ y. y == l.id) (club_ids l.clubs)
