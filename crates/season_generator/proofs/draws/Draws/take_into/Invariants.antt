use Rattle.std.proofs.Common.{◌≡◌, ◌<◌, ◌+◌, ℕ, length, get_or}
use Rattle.season_generator.specs.Draws.{draw}
use Rattle.season_generator.proofs.draws.Draws.take_into.Given as goal

abbrev pub invariant-loop-place : goal.invariant-loop-place
invariant-loop-place l = record {
  size : length l.places ≡ length l.fn.places;
  filled : (k : ℕ) → k < l.place → get_or l.places k 0 ≡ draw l.fn.self.0 (l.fn.self.1 + k);
  moved : l.self ≡ (l.fn.self.0, l.fn.self.1 + l.place);
}
