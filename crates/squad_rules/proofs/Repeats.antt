-- The first place of a range that passes a test.
use Rattle.std.proofs.Common.{◌≡◌, ℕ, zero, suc, ◌+◌, ◌<◌, ◌≤◌, Bool, true, false, eqb, Some, None, find, refl, ap, ◌∙◌, arith}
use Rattle.std.specs.List.{range_with_len}
use Rattle.std.proofs.lemmas.Bool.Decides.{nat_tests}

one_in_range : (p : ℕ → Bool) (a n i : ℕ) (b : Bool) → eqb a i ≡ b → a ≤ i → ((k : ℕ) → a ≤ k → k < i → p k ≡ false) → p i ≡ true → (a + 1 ≤ i → find p (range_with_len (a + 1) n) ≡ Some i) → find p (range_with_len a (suc n)) ≡ Some i
one_in_range p a n i true e low before here rest =
    let same : a ≡ i = grind (arith, nat_tests) in rw (ap p same ∙ here) (ap Some same)
one_in_range p a n i false e low before here rest =
    let less : a < i = grind (arith, nat_tests) in rw (before a (omega arith) less) (rest (omega arith))

-- the first place that passes is found
pub find_in_range : (p : ℕ → Bool) (a n i : ℕ) → a ≤ i → i < a + n → ((k : ℕ) → a ≤ k → k < i → p k ≡ false) → p i ≡ true → find p (range_with_len a n) ≡ Some i
find_in_range p a zero i low high before here = absurd (omega arith)
find_in_range p a (suc n) i low high before here =
    one_in_range p a n i (eqb a i) refl low before here (λ l. find_in_range p (a + 1) n i l (omega arith) (λ k from to. before k (omega arith) to) here)

-- where no place passes, none is found
pub find_in_no_range : (p : ℕ → Bool) (a n : ℕ) → ((k : ℕ) → a ≤ k → k < a + n → p k ≡ false) → find p (range_with_len a n) ≡ None
find_in_no_range p a zero before = refl
find_in_no_range p a (suc n) before =
    rw (before a (omega arith) (omega arith)) (find_in_no_range p (a + 1) n (λ k from to. before k (omega arith) (omega arith)))
