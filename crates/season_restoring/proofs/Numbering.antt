-- Lists by numbers from 1, with one more at the end.
use Rattle.std.proofs.Common.{◌≡◌, ◌+◌, ◌-◌, ◌∙◌, ◌⊎◌, ℕ, zero, suc, Bool, true, false, not, ◌&&◌, ◌==◌, cond, List, [], ◌∷◌, ◌++◌, length, Some, None, refl, sym, ap, subst, inl, inr, arith}
use Rattle.std.specs.Prelude.{slice_get}
use Rattle.std.proofs.lemmas.Bool.{cases_eq}
use Rattle.std.proofs.lemmas.Bool.Decides.{nat_tests}
use Rattle.rule_book.specs.Entries.{entry_in}

module _ {X : Type 0} where
  get_last : (xs : List X) (x : X) → slice_get (xs ++ x ∷ []) (length xs) ≡ Some x
  get_last [] x = refl
  get_last (y ∷ ys) x = get_last ys x

  get_other : (xs : List X) (x : X) (k : ℕ) → (k ≡ length xs → ⊥) → slice_get (xs ++ x ∷ []) k ≡ slice_get xs k
  get_other [] x zero apart = absurd (apart refl)
  get_other [] x (suc k) apart = refl
  get_other (y ∷ ys) x zero apart = refl
  get_other (y ∷ ys) x (suc k) apart = get_other ys x k (λ same. apart (omega (arith, same)))

  pub entry_more : (xs : List X) (x : X) → entry_in (xs ++ x ∷ []) (length xs + 1) ≡ Some x
  entry_more xs x =
      let some : (length xs + 1 == 0) ≡ false = grind (arith, nat_tests) in
      let place : length xs + 1 - 1 ≡ length xs = omega arith in
      ap (λ (b : Bool). cond b None (slice_get (xs ++ x ∷ []) (length xs + 1 - 1))) some ∙ (ap (slice_get (xs ++ x ∷ [])) place ∙ get_last xs x)

  pub entry_other : (xs : List X) (x : X) (q : ℕ) → (q ≡ length xs + 1 → ⊥) → entry_in (xs ++ x ∷ []) q ≡ entry_in xs q
  entry_other xs x q apart = elim (cases_eq q 0) [
    | inl none ↦ subst (λ n. entry_in (xs ++ x ∷ []) n ≡ entry_in xs n) (sym none) refl
    | inr some ↦ ap (λ o. cond (q == 0) None o) (get_other xs x (q - 1) (λ same. apart (omega (arith, same, some))))
  ]

-- a number that has no gap before it
pub after_gap : (n : ℕ) (there : Bool) → (not (n == 1) && not there) ≡ false → (n ≡ 1) ⊎ (there ≡ true)
after_gap n true e = inr refl
after_gap n false e = inl (grind (arith, nat_tests, e))
