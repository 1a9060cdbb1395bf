use Rattle.std.proofs.Common.{◌≡◌, ◌<◌, ◌+◌, ℕ, length, get_or}
use Rattle.season_generator.specs.Made.{player_in}
use Rattle.season_generator.proofs.squads.squad_by.Given as goal

abbrev pub invariant-loop-place : goal.invariant-loop-place
invariant-loop-place l = record {
  size : length l.players ≡ 15;
  filled : (k : ℕ) → k < l.place → get_or l.players k 0 ≡ player_in l.entry (k + 1) (get_or l.drawn k 0);
}
