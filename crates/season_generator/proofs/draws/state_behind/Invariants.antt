use Rattle.std.proofs.Common.{◌≡◌, ◌+◌, ℕ}
use Rattle.season_generator.specs.Draws.{state_after}
use Rattle.season_generator.proofs.draws.state_behind.Given as goal

abbrev pub invariant-loop-behind : goal.invariant-loop-behind
invariant-loop-behind l = (seed n : ℕ) → l.fn.state ≡ state_after seed n → l.last ≡ state_after seed (n + l._behind)
