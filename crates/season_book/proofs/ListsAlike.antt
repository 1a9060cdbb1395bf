-- What is the same of the things of two lists is so of the lists.
use Rattle.std.proofs.Common.{◌≡◌, ◌≤◌, ◌+◌, ◌-◌, ℕ, zero, suc, Bool, true, false, cond, List, [], ◌∷◌, map, arith, refl}
use Rattle.std.specs.List.{range_with_len}

-- one of a list that is kept, or passed over
pub kept_same : {X Y : Type 0} (f : X → Y) (x y : X) (xs ys : List X) (b : Bool) → f x ≡ f y → map f xs ≡ map f ys → map f (cond b (x ∷ xs) xs) ≡ map f (cond b (y ∷ ys) ys)
kept_same f x y xs ys true one rest = λ i. one i ∷ rest i
kept_same f x y xs ys false one rest = rest

-- what is the same at numbers up to k is so over a range of such numbers
pub range_same : {X : Type 0} (f f2 : ℕ → X) (k a n : ℕ) → n ≤ (k + 1) - a → ((g : ℕ) → g ≤ k → f g ≡ f2 g) → map f (range_with_len a n) ≡ map f2 (range_with_len a n)
range_same f f2 k a zero le same = refl
range_same f f2 k a (suc n) le same =
    let one = same a (omega (arith, le)) in
    let rest = range_same f f2 k (a + 1) n (omega (arith, le)) same in
    λ i. one i ∷ rest i
