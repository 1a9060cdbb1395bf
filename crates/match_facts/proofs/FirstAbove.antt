-- The first place at which a number is above its bound.
use Rattle.std.proofs.Common.{ℕ, ◌≡◌, ◌<◌, ◌≤◌, inl, inr, Bool, false, List, Some, None, zip, position, nat_lt, length, get_or, arith}
use Rattle.std.specs.List.{position_or_len}
use Rattle.std.proofs.lemmas.Grind.{common_steps}
use Rattle.std.proofs.lemmas.Bool.Decides.{nat_tests}
use Rattle.std.proofs.lemmas.List.Quantifiers.{position-Some}
use Rattle.std.proofs.lemmas.List.Sums.{fails_before_first}
use Rattle.std.proofs.lemmas.Slice.Zip.{get_or-zip, length-zip}
use Rattle.std.proofs.lemmas.List.{get_or_past}
use Rattle.std.proofs.lemmas.Bool.{cases_lt}

abbrev pub is_above : ℕ × ℕ → Bool
is_above pair = nat_lt pair.1 pair.0

-- a place that is found has a bound
pub found_within : (numbers bounds : List ℕ) (place : ℕ) → position is_above (zip numbers bounds) ≡ Some place → place < length bounds
found_within numbers bounds place found =
    let within : place < length (zip numbers bounds) = (position-Some is_above (zip numbers bounds) place (0, 0) found).0 in
    omega (arith, length-zip numbers bounds)

position-None : {X : Type 0} (p : X → Bool) (xs : List X) (k : ℕ) (d : X) → position p xs ≡ None → k < length xs → p (get_or xs k d) ≡ false
position-None p xs k d e within =
    let past : length xs ≤ position_or_len p xs = grind (arith, common_steps) in
    fails_before_first p xs k d (omega arith)

within_bound : (number bound : ℕ) → nat_lt bound number ≡ false → number ≤ bound
within_bound number bound e = grind (arith, nat_tests)

beyond : (numbers bounds : List ℕ) (k : ℕ) → length numbers ≤ k → get_or numbers k 0 ≤ get_or bounds k 0
beyond numbers bounds k past = omega (arith, get_or_past numbers k 0 past)

here : (numbers bounds : List ℕ) (k : ℕ) → position is_above (zip numbers bounds) ≡ None → k < length numbers → k < length bounds → get_or numbers k 0 ≤ get_or bounds k 0
here numbers bounds k none inside bounded =
    let within : k < length (zip numbers bounds) = omega (arith, length-zip numbers bounds) in
    let fails = position-None is_above (zip numbers bounds) k (0, 0) none within in
    within_bound (get_or numbers k 0) (get_or bounds k 0) (rw (get_or-zip numbers bounds k (0, 0) inside bounded) at fails)

-- where none is found, each number that has a bound is within it
pub none_above : (numbers bounds : List ℕ) (k : ℕ) → position is_above (zip numbers bounds) ≡ None → k < length bounds
    → get_or numbers k 0 ≤ get_or bounds k 0
none_above numbers bounds k none bounded =
    elim (cases_lt k (length numbers)) [ inl inside ↦ here numbers bounds k none inside bounded | inr past ↦ beyond numbers bounds k past ]
