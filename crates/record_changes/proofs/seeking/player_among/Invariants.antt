use Rattle.std.proofs.Common.{◌≡◌, ◌==◌, drop}
use Rattle.std.specs.List.{list_any}
use Rattle.record_changes.proofs.seeking.player_among.Given as goal

abbrev pub invariant-loop-id : goal.invariant-loop-id
invariant-loop-id l = list_any (λ id. id == l.number) (drop l.id-index l.ids) ≡ list_any (λ id. id == l.number) l.ids
