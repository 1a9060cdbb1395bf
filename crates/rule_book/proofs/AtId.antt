-- What is found among rows by id once others stand in place of what stood at one.
use Rattle.std.proofs.Common.{ℕ, ◌≡◌, Bool, true, false, cond, List, [], ◌∷◌, ◌++◌, Option, Some, None, ◌==◌, inl, inr, filter, nat_lt, arith, refl, ap, ◌∙◌, if◌then◌else◌}
use Rattle.std.specs.Map.{lookup}
use Rattle.std.proofs.lemmas.Bool.Decides.{nat_tests}
use Rattle.std.proofs.lemmas.Bool.{cases_order}
use Rattle.std.proofs.lemmas.Map.Entries.{lookup-filter-keys}
use Rattle.rule_book.specs.ById.{at_id, placed_at}

module _ {X : Type 0} where
  unfoldable pub or_else : Option X → Option X → Option X
  or_else None o = o
  or_else (Some x) o = Some x

  pub or_none : (o : Option X) → or_else o None ≡ o
  unfolding or_else
  or_none None = refl
  or_none (Some x) = refl

  none_or : (o : Option X) → or_else None o ≡ o
  unfolding or_else
  none_or o = refl

  lookup-append : (test : ℕ → Bool) (xs ys : List (ℕ × X)) → lookup test (xs ++ ys) ≡ or_else (lookup test xs) (lookup test ys)
  unfolding or_else
  lookup-append test [] ys = refl
  lookup-append test (x ∷ xs) ys = elim (test x.0) as (λ b. cond b (Some x.1) (lookup test (xs ++ ys)) ≡ or_else (cond b (Some x.1) (lookup test xs)) (lookup test ys)) [
    | true ↦ refl
    | false ↦ lookup-append test xs ys
  ]

  smaller_at : (rows : List (ℕ × X)) (k q : ℕ) (b : Bool) → nat_lt q k ≡ b → at_id (filter (λ row. nat_lt row.0 k) rows) q ≡ cond b (at_id rows q) None
  smaller_at rows k q b e = lookup-filter-keys (λ other. other == q) (λ j. nat_lt j k) b (λ j same. grind (arith, nat_tests, e, same)) rows

  greater_at : (rows : List (ℕ × X)) (k q : ℕ) (b : Bool) → nat_lt k q ≡ b → at_id (filter (λ row. nat_lt k row.0) rows) q ≡ cond b (at_id rows q) None
  greater_at rows k q b e = lookup-filter-keys (λ other. other == q) (λ j. nat_lt k j) b (λ j same. grind (arith, nat_tests, e, same)) rows

  parts_at : (rows own : List (ℕ × X)) (k q : ℕ)
      → at_id (placed_at rows k own) q ≡ or_else (at_id (filter (λ row. nat_lt row.0 k) rows) q) (or_else (at_id own q) (at_id (filter (λ row. nat_lt k row.0) rows) q))
  parts_at rows own k q =
      lookup-append (λ other. other == q) (filter (λ row. nat_lt row.0 k) rows) (own ++ filter (λ row. nat_lt k row.0) rows)
      ∙ ap (or_else (at_id (filter (λ row. nat_lt row.0 k) rows) q)) (lookup-append (λ other. other == q) own (filter (λ row. nat_lt k row.0) rows))

  -- at the id stands what was put there
  pub placed_same : (rows own : List (ℕ × X)) (k : ℕ) → at_id (placed_at rows k own) k ≡ at_id own k
  placed_same rows own k =
      parts_at rows own k k
      ∙ ap (λ o. or_else o (or_else (at_id own k) (at_id (filter (λ row. nat_lt k row.0) rows) k))) (smaller_at rows k k false (grind (arith, nat_tests)))
      ∙ none_or (or_else (at_id own k) (at_id (filter (λ row. nat_lt k row.0) rows) k))
      ∙ ap (or_else (at_id own k)) (greater_at rows k k false (grind (arith, nat_tests)))
      ∙ or_none (at_id own k)

  -- at every other what stood there
  pub placed_other : (rows own : List (ℕ × X)) (k q : ℕ) → (q ≡ k → ⊥) → at_id own q ≡ None → at_id (placed_at rows k own) q ≡ at_id rows q
  placed_other rows own k q apart none = elim (cases_order q k) [
    | inl same ↦ absurd (apart same)
    | inr (inl lt) ↦
        parts_at rows own k q
        ∙ ap (λ o. or_else o (or_else (at_id own q) (at_id (filter (λ row. nat_lt k row.0) rows) q))) (smaller_at rows k q true (grind (arith, nat_tests)))
        ∙ ap (λ o. or_else (at_id rows q) (or_else o (at_id (filter (λ row. nat_lt k row.0) rows) q))) none
        ∙ ap (or_else (at_id rows q)) (none_or (at_id (filter (λ row. nat_lt k row.0) rows) q) ∙ greater_at rows k q false (grind (arith, nat_tests)))
        ∙ or_none (at_id rows q)
    | inr (inr gt) ↦
        parts_at rows own k q
        ∙ ap (λ o. or_else o (or_else (at_id own q) (at_id (filter (λ row. nat_lt k row.0) rows) q))) (smaller_at rows k q false (grind (arith, nat_tests)))
        ∙ none_or (or_else (at_id own q) (at_id (filter (λ row. nat_lt k row.0) rows) q))
        ∙ ap (λ o. or_else o (at_id (filter (λ row. nat_lt k row.0) rows) q)) none
        ∙ none_or (at_id (filter (λ row. nat_lt k row.0) rows) q)
        ∙ greater_at rows k q true (grind (arith, nat_tests))
  ]

  pub one_other : (k q : ℕ) (x : X) → (q ≡ k → ⊥) → at_id ((k, x) ∷ []) q ≡ None
  one_other k q x apart = grind (arith, nat_tests, apart)

  pub one_same : (k : ℕ) (x : X) → at_id ((k, x) ∷ []) k ≡ Some x
  one_same k x = grind (arith, nat_tests)

pub chosen_same : {Y : Type 0} (k q : ℕ) (x y : Y) → q ≡ k → (if q == k then x else y) ≡ x
chosen_same k q x y same = grind (arith, nat_tests, same)

pub chosen_other : {Y : Type 0} (k q : ℕ) (x y : Y) → (q ≡ k → ⊥) → (if q == k then x else y) ≡ y
chosen_other k q x y apart = grind (arith, nat_tests, apart)
