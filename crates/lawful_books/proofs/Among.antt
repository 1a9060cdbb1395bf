-- Ids of rows and of what is found by id.
use Rattle.std.proofs.Common.{◌≡◌, ◌==◌, ◌||◌, ℕ, Bool, true, false, cond, List, [], ◌∷◌, Option, Some, None, find, filter, map, refl, sym, ap, ◌∙◌}
use Rattle.std.specs.Prelude.{is_some}
use Rattle.std.specs.List.{list_any}
use Rattle.std.specs.Option.{option_map}
use Rattle.std.proofs.lemmas.Option.{none-some, same_Some}
use Rattle.rule_book.specs.ById.{at_id}
use Rattle.stored_records.proofs.Loops.{any_mapped}
use Rattle.lawful_books.proofs.Found.{some_any}

pub some_mapped : {X Y : Type 0} (f : X → Y) (o : Option X) → is_some (option_map f o) ≡ is_some o
some_mapped f None = refl
some_mapped f (Some x) = refl

pub at_id_any : {X : Type 0} (rows : List (ℕ × X)) (n : ℕ) → is_some (at_id rows n) ≡ list_any (λ row. row.0 == n) rows
at_id_any [] n = refl
at_id_any (row ∷ rows) n = elim (row.0 == n) as (λ b. is_some (cond b (Some row.1) (at_id rows n)) ≡ (b || list_any (λ row. row.0 == n) rows)) [
  | true ↦ refl
  | false ↦ at_id_any rows n
]

module _ {X : Type 0} (id : X → ℕ) where
  pub any_id : (xs : List X) (n : ℕ) → list_any (λ i. i == n) (map id xs) ≡ list_any (λ x. id x == n) xs
  any_id xs n = any_mapped (λ i. i == n) id xs

  pub found_among : (xs : List X) (n : ℕ) → is_some (find (λ x. id x == n) xs) ≡ list_any (λ i. i == n) (map id xs)
  found_among xs n = some_any (λ x. id x == n) xs ∙ sym (any_id xs n)

  -- what is found and passes a test is among those that pass
  pub passing_among : (p : X → Bool) (xs : List X) (n : ℕ) (x : X) → find (λ x. id x == n) xs ≡ Some x → p x ≡ true → list_any (λ i. i == n) (map id (filter p xs)) ≡ true
  passing_among p [] n x at passes = absurd (none-some x at)
  passing_among p (y ∷ xs) n x at passes = by (id y == n) refl at (λ at. passing_among p xs n x at passes)
    where
      by : (b : Bool) → (id y == n) ≡ b → cond b (Some y) (find (λ x. id x == n) xs) ≡ Some x
          → (find (λ x. id x == n) xs ≡ Some x → list_any (λ i. i == n) (map id (filter p xs)) ≡ true)
          → list_any (λ i. i == n) (map id (filter p (y ∷ xs))) ≡ true
      by true is at rest = let here : p y ≡ true = ap p (same_Some y x at) ∙ passes in rw here (ap (λ b. b || list_any (λ i. i == n) (map id (filter p xs))) is)
      by false is at rest = let more = rest at in elim (p y) as (λ b. list_any (λ i. i == n) (map id (cond b (y ∷ filter p xs) (filter p xs))) ≡ true) [
        | true ↦ ap (λ b. b || list_any (λ i. i == n) (map id (filter p xs))) is ∙ more
        | false ↦ more
      ]
