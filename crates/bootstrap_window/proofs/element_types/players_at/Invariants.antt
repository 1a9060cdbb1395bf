use Rattle.std.proofs.Common.{◌≡◌, ◌≤◌, take}
use Rattle.std.specs.Prelude.{count_by}
use Rattle.season_book.specs.ElementTypes.{is_position}
use Rattle.bootstrap_window.proofs.element_types.players_at.Given as goal

-- those among the players so far
abbrev pub invariant-loop-place : goal.invariant-loop-place
invariant-loop-place l = record {
  many : l.many ≡ count_by (λ player. is_position l.position player.position) (take l.place l.players);
  few : l.many ≤ l.place;
}
