-- What is found by id in a list in which one was put or each was changed, and how many there are.
use Rattle.std.proofs.Common.{◌≡◌, ◌≤◌, ◌+◌, ◌==◌, ◌||◌, ℕ, Bool, true, false, not, cond, List, [], ◌∷◌, ◌++◌, Option, Some, None, find, filter, length, map, nat_lt, arith, refl, sym, ap, subst, ◌∙◌, inl, inr}
use Rattle.std.specs.Prelude.{is_some}
use Rattle.std.specs.List.{list_any}
use Rattle.std.specs.Option.{option_map}
use Rattle.std.proofs.lemmas.Bool.{cases_eq}
use Rattle.std.proofs.lemmas.Bool.Decides.{nat_tests}
use Rattle.std.proofs.lemmas.Option.{none-some, same_Some}
use Rattle.season_records.proofs.Finds.{found_beside}

pub some_any : {X : Type 0} (p : X → Bool) (xs : List X) → is_some (find p xs) ≡ list_any p xs
some_any p [] = refl
some_any p (x ∷ xs) = elim (p x) as (λ b. is_some (cond b (Some x) (find p xs)) ≡ (b || list_any p xs)) [
  | true ↦ refl
  | false ↦ some_any p xs
]

module _ {X : Type 0} (id : X → ℕ) where
  -- one put in
  abbrev pub put_in : List X → X → List X
  put_in xs new = filter (λ x. nat_lt (id x) (id new)) xs ++ new ∷ filter (λ x. nat_lt (id new) (id x)) xs

  past_smaller : (xs more : List X) (new : X) → find (λ x. id x == id new) (filter (λ x. nat_lt (id x) (id new)) xs ++ new ∷ more) ≡ Some new
  past_smaller [] more new = grind (arith, nat_tests)
  past_smaller (x ∷ xs) more new = grind (arith, nat_tests, past_smaller xs more new)

  pub found_new : (xs : List X) (new : X) → find (λ x. id x == id new) (put_in xs new) ≡ Some new
  found_new xs new = past_smaller xs (filter (λ x. nat_lt (id new) (id x)) xs) new

  -- what holds of the new one and of those before holds of each that is found
  pub put_found : (P : X → Type 0) (xs : List X) (new : X) (q : ℕ) (x : X) → (q ≡ id new → P new) → (find (λ x. id x == q) xs ≡ Some x → P x)
      → find (λ x. id x == q) (put_in xs new) ≡ Some x → P x
  put_found P xs new q x here there at = elim (cases_eq q (id new)) [
    | inl same ↦ subst P (same_Some new x (sym (found_new xs new) ∙ ap (λ q. find (λ x. id x == q) (put_in xs new)) (sym same) ∙ at)) (here same)
    | inr other ↦ there (sym (found_beside id xs new q (grind (arith, nat_tests, other))) ∙ at)
  ]

  pub still_found : (xs : List X) (new : X) (q : ℕ) → is_some (find (λ x. id x == q) xs) ≡ true → is_some (find (λ x. id x == q) (put_in xs new)) ≡ true
  still_found xs new q there = elim (cases_eq q (id new)) [
    | inl same ↦ ap (λ q. is_some (find (λ x. id x == q) (put_in xs new))) same ∙ ap is_some (found_new xs new)
    | inr other ↦ ap is_some (found_beside id xs new q (grind (arith, nat_tests, other))) ∙ there
  ]

  -- each changed, but for its id
  pub found_mapped : (f : X → X) → ((x : X) → id (f x) ≡ id x) → (xs : List X) (q : ℕ) → find (λ x. id x == q) (map f xs) ≡ option_map f (find (λ x. id x == q) xs)
  found_mapped f keeps [] q = refl
  found_mapped f keeps (x ∷ xs) q =
      ap (λ b. cond b (Some (f x)) (find (λ x. id x == q) (map f xs))) (ap (λ k. k == q) (keeps x))
      ∙ elim (id x == q) as (λ b. cond b (Some (f x)) (find (λ x. id x == q) (map f xs)) ≡ option_map f (cond b (Some x) (find (λ x. id x == q) xs))) [
        | true ↦ refl
        | false ↦ found_mapped f keeps xs q
      ]

  pub mapped_found : (P : X → Type 0) (f : X → X) → ((x : X) → id (f x) ≡ id x) → (xs : List X) (q : ℕ) (y : X)
      → ((x : X) → find (λ x. id x == q) xs ≡ Some x → P (f x)) → find (λ x. id x == q) (map f xs) ≡ Some y → P y
  mapped_found P f keeps xs q y each at = by (find (λ x. id x == q) xs) refl
    where
      by : (o : Option X) → find (λ x. id x == q) xs ≡ o → P y
      by None is = absurd (none-some y (sym (found_mapped f keeps xs q ∙ ap (option_map f) is) ∙ at))
      by (Some x) is = subst P (same_Some (f x) y (sym (found_mapped f keeps xs q ∙ ap (option_map f) is) ∙ at)) (each x is)

  pub still_mapped : (f : X → X) → ((x : X) → id (f x) ≡ id x) → (xs : List X) (q : ℕ) → is_some (find (λ x. id x == q) (map f xs)) ≡ is_some (find (λ x. id x == q) xs)
  still_mapped f keeps xs q = ap is_some (found_mapped f keeps xs q) ∙ by (find (λ x. id x == q) xs)
    where
      by : (o : Option X) → is_some (option_map f o) ≡ is_some o
      by None = refl
      by (Some x) = refl

  -- of those of smaller and of greater ids no more pass a test than of all but the id's
  pub parts_pass : (p : X → Bool) (k : ℕ) (xs : List X)
      → length (filter p (filter (λ x. nat_lt (id x) k) xs)) + length (filter p (filter (λ x. nat_lt k (id x)) xs)) ≤ length (filter (λ i. not (i == k)) (map id (filter p xs)))
  parts_pass p k [] = omega arith
  parts_pass p k (x ∷ xs) = grind (arith, nat_tests, parts_pass p k xs)
