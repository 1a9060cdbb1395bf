use Rattle.std.proofs.Common.{◌≡◌, ◌==◌, drop}
use Rattle.std.specs.List.{list_any}
use Rattle.season_records.specs.Commands.{club_ids}
use Rattle.season_records.proofs.orderable.has_id.Given as goal

-- what is left decides
abbrev pub invariant-clubs : goal.invariant-clubs
invariant-clubs l = list_any (λ y. y == l.id) (club_ids (drop l.club-index l.clubs)) ≡ list_any (λ y. y == l.id) (club_ids l.clubs)
