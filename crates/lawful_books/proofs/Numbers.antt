-- What is found by number, and that a list holds what was found in it.
use Rattle.std.proofs.Common.{◌≡◌, ◌<◌, ◌≤◌, ◌+◌, ℕ, zero, suc, true, List, [], ◌∷◌, ◌++◌, Option, Some, None, length, arith, refl, sym, ap, ◌∙◌, ◌⊎◌, inl, inr, slice_get}
use Rattle.std.specs.Prelude.{is_some}
use Rattle.std.specs.Option.{option_map}
use Rattle.std.proofs.lemmas.Bool.{cases_eq}
use Rattle.std.proofs.lemmas.Option.{none-some, same_Some}
use Rattle.rule_book.specs.Entries.{changed_in, entry_in}
use Rattle.rule_book.specs.History.{Event}
use Rattle.season_book.specs.Book.{EntryFacts, histories_with}
use Rattle.season_records.proofs.Finds.{at_number, numbered_beside, numbered_changed, numbered_here}

module _ {X : Type 0} where
  placed_within : (xs : List X) (n : ℕ) (x : X) → slice_get xs n ≡ Some x → n < length xs
  placed_within [] n x at = absurd (none-some x at)
  placed_within (y ∷ ys) zero x at = omega arith
  placed_within (y ∷ ys) (suc n) x at = omega (arith, placed_within ys n x at)

  placed_there : (xs : List X) (n : ℕ) → n < length xs → is_some (slice_get xs n) ≡ true
  placed_there [] n lt = absurd (omega (arith, lt))
  placed_there (x ∷ xs) zero lt = refl
  placed_there (x ∷ xs) (suc n) lt = placed_there xs n (omega (arith, lt))

  -- what is found has a number from 1 to the length
  pub found_from_one : (xs : List X) (n : ℕ) (x : X) → entry_in xs n ≡ Some x → 1 ≤ n
  found_from_one xs zero x at = absurd (none-some x at)
  found_from_one xs (suc n) x at = omega arith

  pub found_within : (xs : List X) (n : ℕ) (x : X) → entry_in xs n ≡ Some x → n ≤ length xs
  found_within xs zero x at = omega arith
  found_within xs (suc n) x at = omega (arith, placed_within xs n x (sym (at_number xs n) ∙ at))

  -- and each such number has something
  pub numbered_there : (xs : List X) (n : ℕ) → 1 ≤ n → n ≤ length xs → is_some (entry_in xs n) ≡ true
  numbered_there xs zero ge le = absurd (omega (arith, ge))
  numbered_there xs (suc n) ge le = ap is_some (at_number xs n) ∙ placed_there xs n (omega (arith, le))

  pub there_is : (o : Option X) → is_some o ≡ true → (x : X) × (o ≡ Some x)
  there_is None is = absurd cc
  there_is (Some x) is = (x, refl)

  pub some_mapped : {Y : Type 0} (f : X → Y) (o : Option X) → is_some o ≡ true → is_some (option_map f o) ≡ true
  some_mapped f None is = is
  some_mapped f (Some x) is = refl

  pub mapped_some : {Y : Type 0} (f : X → Y) (o : Option X) (y : Y) → option_map f o ≡ Some y → is_some o ≡ true
  mapped_some f None y is = absurd (none-some y is)
  mapped_some f (Some x) y is = refl

  -- what is there stays, beside more and where one is changed
  pub stays_beside : (xs more : List X) (n : ℕ) → is_some (entry_in xs n) ≡ true → is_some (entry_in (xs ++ more) n) ≡ true
  stays_beside xs more n is =
      let found = there_is (entry_in xs n) is in
      let within : n ≤ length xs = found_within xs n found.0 found.1 in
      ap is_some (sym (numbered_beside xs more n (λ lt le. omega (arith, within, lt)))) ∙ is

  pub stays_changed : (change : X → X) (xs : List X) (k n : ℕ) → is_some (entry_in xs n) ≡ true → is_some (entry_in (changed_in change xs k) n) ≡ true
  stays_changed change xs k n is = sym (numbered_changed is_some change xs k n (λ same x at. refl)) ∙ is

  pub last_there : (xs : List X) (x : X) → is_some (entry_in (xs ++ x ∷ []) (length xs + 1)) ≡ true
  last_there xs x = numbered_there (xs ++ x ∷ []) (length xs + 1) (omega arith) (omega (arith, more xs))
    where
      more : (xs : List X) → length (xs ++ x ∷ []) ≡ length xs + 1
      more [] = refl
      more (y ∷ ys) = omega (arith, more ys)

  -- as many where one is changed; each is one of before, or the changed one
  pub length_changed : (change : X → X) (xs : List X) (k : ℕ) → length (changed_in change xs k) ≡ length xs
  length_changed change [] k = refl
  length_changed change (x ∷ xs) zero = refl
  length_changed change (x ∷ xs) (suc zero) = refl
  length_changed change (x ∷ xs) (suc (suc k)) = ap suc (length_changed change xs (suc k))

  pub changed_at : (change : X → X) (xs : List X) (k : ℕ) (x : X) → entry_in xs k ≡ Some x → (n : ℕ) (y : X) → entry_in (changed_in change xs k) n ≡ Some y
      → (entry_in xs n ≡ Some y) ⊎ (y ≡ change x)
  changed_at change xs k x at n y found = elim (cases_eq n k) [
    | inl same ↦ inr (sym (same_Some (change x) y (sym (numbered_here change xs k x at) ∙ ap (entry_in (changed_in change xs k)) (sym same) ∙ found)))
    | inr other ↦ inl (numbered_changed (λ o. o) change xs k n (λ same. absurd (other same)) ∙ found)
  ]

pub length_histories : (entries : List EntryFacts) (e : ℕ) (h : List Event) → length (histories_with entries e h) ≡ length entries
length_histories [] e h = refl
length_histories (entry ∷ entries) zero h = refl
length_histories (entry ∷ entries) (suc zero) h = refl
length_histories (entry ∷ entries) (suc (suc e)) h = ap suc (length_histories entries (suc e) h)
