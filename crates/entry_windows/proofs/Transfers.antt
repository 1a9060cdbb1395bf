-- Sums over a range of gameweeks.
use Rattle.std.proofs.Common.{◌≡◌, ◌+◌, ℕ, map, ap, ◌∙◌}
use Rattle.std.specs.List.{range_with_len, sum}
use Rattle.std.proofs.lemmas.List.FromFn.{map-range_with_len_more}
use Rattle.std.proofs.lemmas.List.Sums.{sum_by_push}

-- one gameweek more
pub summed_one : (f : ℕ → ℕ) (from n g : ℕ) → from + n ≡ g → sum (map f (range_with_len from (n + 1))) ≡ sum (map f (range_with_len from n)) + f g
summed_one f from n g at = ap sum (map-range_with_len_more f from n g at) ∙ sum_by_push (λ (k : ℕ). k) (map f (range_with_len from n)) (f g)
