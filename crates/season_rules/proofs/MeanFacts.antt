-- The mean of numbers that are near 0 is as near.
use Rattle.std.proofs.Common.{zero, suc, ℕ, ℤ, pos, negsuc, ◌≡◌, ◌<◌, ◌≤◌, ◌+◌, ◌*◌, ◌+ℤ◌, ◌*ℤ◌, ◌≤ℤ◌, List, [], ◌∷◌, All, length, inl, inr, subst, arith}
use Rattle.std.specs.Prelude.{◌<ℤ◌}
use Rattle.std.specs.List.{fold}
use Rattle.std.proofs.Math.Nat.{mul-le-mul_left}
use Rattle.std.proofs.lemmas.Bool.{cases_lt}
use Rattle.std.proofs.lemmas.Int.{ints}
use Rattle.std.proofs.lemmas.List.Elements.{All-head, All-tail}
use Rattle.rule_book.specs.FigureRange.{IsWithin}
use Rattle.rule_book.specs.HeadToHead.{IsFloorOfMean, total_of}

-- a sum grows by no more than one of the numbers at each
sum_near : (n : ℕ) (s : ℤ) (xs : List ℤ) → IsWithin (18000000 * n) s → All (IsWithin 18000000) xs → IsWithin (18000000 * (n + length xs)) (fold ◌+ℤ◌ s xs)
sum_near n s [] near all = (omega (arith, ints, near), omega (arith, ints, near))
sum_near n s (x ∷ xs) near all =
    let first = All-head (IsWithin 18000000) x xs all in
    let more : IsWithin (18000000 * (n + 1)) (s +ℤ x) = (omega (arith, ints, near, first), omega (arith, ints, near, first)) in
    let rest = sum_near (n + 1) (s +ℤ x) xs more (All-tail (IsWithin 18000000) x xs all) in
    (omega (arith, ints, rest.0), omega (arith, ints, rest.1))

total_near : (xs : List ℤ) → All (IsWithin 18000000) xs → IsWithin (18000000 * length xs) (total_of xs)
total_near xs all =
    let near = sum_near 0 (pos 0) xs (omega (arith, ints), omega (arith, ints)) all in
    (omega (arith, ints, near.0), omega (arith, ints, near.1))

-- if n times q is no more than n times so much, q is no more
below : (n q : ℕ) → 0 < n → n * q ≤ 18000000 * n → q ≤ 18000000
below n q some low =
    elim (cases_lt 18000000 q) [
      | inl high ↦ let more : n * 18000001 ≤ n * q = mul-le-mul_left n (omega (arith, high)) in absurd (omega (arith, some, low, more))
      | inr is ↦ is
    ]

one_less : (q : ℕ) → negsuc (suc q) +ℤ pos 1 ≡ negsuc q
one_less q = omega (arith, ints)

floor_near : (n : ℕ) (total mean : ℤ) → 0 < n → IsWithin (18000000 * n) total → (pos n *ℤ mean) ≤ℤ total → total <ℤ (pos n *ℤ (mean +ℤ pos 1)) → IsWithin 18000000 mean
floor_near n total (pos q) some near low high =
    let times : n * q ≤ 18000000 * n = omega (arith, ints, low, near.1) in
    let is = below n q some times in
    (omega (arith, ints), omega (arith, ints, is))
floor_near n total (negsuc zero) some near low high = (omega (arith, ints), omega (arith, ints))
floor_near n total (negsuc (suc q)) some near low high =
    let up : total <ℤ (pos n *ℤ negsuc q) = subst (λ z. total <ℤ (pos n *ℤ z)) (one_less q) high in
    let times : n * suc q < 18000000 * n = omega (arith, ints, up, near.0) in
    let apart : suc q < 18000000 = strictly n (suc q) some times in
    (omega (arith, ints, apart), omega (arith, ints))
  where
    strictly : (n q : ℕ) → 0 < n → n * q < 18000000 * n → q < 18000000
    strictly n q some low =
        elim (cases_lt q 18000000) [
          | inl is ↦ is
          | inr high ↦ let more : n * 18000000 ≤ n * q = mul-le-mul_left n high in absurd (omega (arith, low, more))
        ]

pub mean_near : (xs : List ℤ) (mean : ℤ) → 0 < length xs → All (IsWithin 18000000) xs → IsFloorOfMean xs mean → IsWithin 18000000 mean
mean_near xs mean some all is = floor_near (length xs) (total_of xs) mean some (total_near xs all) is.0 is.1
