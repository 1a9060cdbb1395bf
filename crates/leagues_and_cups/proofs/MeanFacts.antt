-- The mean of the definition is the one of the rules.
use Rattle.std.proofs.Common.{zero, suc, ℕ, ◌≡◌, sym, ap, subst, ◌<◌, ◌≤◌, ◌*◌, ◌/◌, length, arith, pos, negsuc}
use Rattle.std.specs.Prelude.{ℤ, ◌+ℤ◌, ◌*ℤ◌, ◌≤ℤ◌, ◌<ℤ◌}
use Rattle.std.specs.Int.{int_div_euclid}
use Rattle.std.proofs.Math.Nat.{le-div_iff_mul-le, div-lt_iff_lt-mul, mul_comm}
use Rattle.std.proofs.lemmas.Int.{ints}
use Rattle.rule_book.specs.HeadToHead.{IsFloorOfMean, total_of}
use Rattle.rule_book.specs.Opponents.{MeanIsTheOne}

quotient_low : (n a : ℕ) → 0 < n → n * (a / n) ≤ a
quotient_low n a some = let h : a / n * n ≤ a = (le-div_iff_mul-le some).0 (omega arith) in subst (λ m. m ≤ a) (mul_comm (a / n) n) h

quotient_high : (n a : ℕ) → 0 < n → a < n * suc (a / n)
quotient_high n a some = let h : a < suc (a / n) * n = (div-lt_iff_lt-mul some).0 (omega arith) in subst (λ m. a < m) (mul_comm (suc (a / n)) n) h

quotient_is : (n q a : ℕ) → 0 < n → n * q ≤ a → a < n * suc q → q ≡ a / n
quotient_is n q a some low high =
    let l : q ≤ a / n = (le-div_iff_mul-le some).1 (subst (λ m. m ≤ a) (mul_comm n q) low) in
    let h : a / n < suc q = (div-lt_iff_lt-mul some).1 (subst (λ m. a < m) (mul_comm n (suc q)) high) in
    omega arith

-- n times m is no more than t, and n times one more is
abbrev FloorOf : ℕ → ℤ → ℤ → Type 0
FloorOf n t m = ((pos n *ℤ m) ≤ℤ t) × (t <ℤ (pos n *ℤ (m +ℤ pos 1)))

one_more : (q : ℕ) → pos q +ℤ pos 1 ≡ pos (suc q)
one_more q = omega (arith, ints)

one_less : (q : ℕ) → negsuc (suc q) +ℤ pos 1 ≡ negsuc q
one_less q = omega (arith, ints)

floor_is : (n : ℕ) (t m : ℤ) → 0 < n → FloorOf n t m → m ≡ int_div_euclid t (pos n)
floor_is n (pos a) (pos q) some f =
    let low : n * q ≤ a = omega (arith, ints, f.0) in
    let g : pos a <ℤ (pos n *ℤ pos (suc q)) = subst (λ z. pos a <ℤ (pos n *ℤ z)) (one_more q) f.1 in
    ap pos (quotient_is n q a some low (omega (arith, ints, g)))
floor_is n (pos a) (negsuc zero) some f =
    let g : pos a <ℤ (pos n *ℤ pos 0) = f.1 in absurd (omega (arith, ints, g))
floor_is n (pos a) (negsuc (suc q)) some f =
    let g : pos a <ℤ (pos n *ℤ negsuc q) = subst (λ z. pos a <ℤ (pos n *ℤ z)) (one_less q) f.1 in absurd (omega (arith, ints, g))
floor_is n (negsuc a) (pos q) some f = absurd (omega (arith, ints, f.0))
floor_is n (negsuc a) (negsuc zero) some f =
    let high : a < n * 1 = omega (arith, ints, f.0) in
    ap negsuc (quotient_is n 0 a some (omega arith) high)
floor_is n (negsuc a) (negsuc (suc q)) some f =
    let high : a < n * suc (suc q) = omega (arith, ints, f.0) in
    let g : negsuc a <ℤ (pos n *ℤ negsuc q) = subst (λ z. negsuc a <ℤ (pos n *ℤ z)) (one_less q) f.1 in
    ap negsuc (quotient_is n (suc q) a some (omega (arith, ints, g)) high)

below_zero : (n a q : ℕ) → n * q ≤ a → negsuc a <ℤ (pos n *ℤ (negsuc q +ℤ pos 1))
below_zero n a zero low = let g : negsuc a <ℤ (pos n *ℤ pos 0) = omega (arith, ints) in g
below_zero n a (suc q) low = subst (λ z. negsuc a <ℤ (pos n *ℤ z)) (sym (one_less q)) (omega (arith, ints, low))

floor_there : (n : ℕ) (t : ℤ) → 0 < n → FloorOf n t (int_div_euclid t (pos n))
floor_there n (pos a) some =
    (omega (arith, ints, quotient_low n a some), subst (λ z. pos a <ℤ (pos n *ℤ z)) (sym (one_more (a / n))) (omega (arith, ints, quotient_high n a some)))
floor_there n (negsuc a) some = (omega (arith, ints, quotient_high n a some), below_zero n a (a / n) (quotient_low n a some))

pub mean_is_the_one : MeanIsTheOne
mean_is_the_one points mean some =
    (floor_is (length points) (total_of points) mean (omega arith), λ e. subst (IsFloorOfMean points) (sym e) (floor_there (length points) (total_of points) (omega arith)))
