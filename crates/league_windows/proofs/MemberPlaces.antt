-- What is found of a member among members who rise.
use Rattle.std.proofs.Common.{◌≡◌, ◌<◌, ◌≤◌, ℕ, inl, inr, List, length, get_or, map, Ok, Err, arith, ap, ◌∙◌, Contains}
use Rattle.std.specs.Prelude.{AllPairs}
use Rattle.std.specs.List.Sorted.{IsBinarySearchResult}
use Rattle.std.specs.Ordering.{nat_cmp}
use Rattle.std.proofs.lemmas.Bool.{cases_eq, cases_lt}
use Rattle.std.proofs.lemmas.List.{get_or-map, get_or_default}
use Rattle.std.proofs.lemmas.List.Sorted.{searched}

module _ (members : List ℕ) (rise : AllPairs (λ a b. a < b) members) (e : ℕ) where
  never_falls : (i j : ℕ) → i ≤ j → j < length members → get_or members i 0 ≤ get_or members j 0
  never_falls i j le within = elim (cases_eq i j) [
    | inl same ↦ omega (arith, ap (λ k. get_or members k 0) same)
    | inr other ↦ omega (arith, rise i j 0 (omega arith) within)
  ]

  -- the place that is found is that of the member
  pub at_place : (place : ℕ) → IsBinarySearchResult (λ m. nat_cmp m e) members (Ok place) → (place < length members) × (get_or members place 0 ≡ e)
  at_place place is = searched members e (Ok place) is never_falls

  -- a member is found
  pub is_found : (r : ℕ) → IsBinarySearchResult (λ m. nat_cmp m e) members (Err r) → Contains members e → ⊥
  is_found r is (k, within, at) =
      let apart = searched members e (Err r) is never_falls in
      elim (cases_lt k r) [
        | inl low ↦ let less = apart.1 k low in omega (arith, less, at, get_or_default members k 0 e within)
        | inr high ↦ let more = apart.2 k high within in omega (arith, more, at, get_or_default members k 0 e within)
      ]

  -- and so is what a function gives of it
  pub of_member : (f : ℕ → ℕ) (values : List ℕ) (place d : ℕ) → values ≡ map f members → place < length members → get_or members place 0 ≡ e → get_or values place d ≡ f e
  of_member f values place d are within at = ap (λ vs. get_or vs place d) are ∙ get_or-map f members place 0 d within ∙ ap f at
