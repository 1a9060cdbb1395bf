-- Rows by ascending id, with others in place of what stands at one.
use Rattle.std.proofs.Common.{ℕ, ◌≡◌, ◌<◌, ◌≤◌, cond, List, [], ◌∷◌, ◌++◌, Some, None, IsSome, filter, nat_lt, arith, refl, sym, ap, subst, ◌∙◌, inl, inr}
use Rattle.std.specs.Bool.{⊤}
use Rattle.std.specs.BTreeMap.{insert_entry, is_at}
use Rattle.std.specs.Map.{lookup, remove_entry, set_value, keys_of}
use Rattle.std.specs.List.{AllByRecursion}
use Rattle.std.specs.declared.cmp.Ordering.TheVariants.{Less, Equal, Greater}
use Rattle.std.specs.declared.cmp.Ordering.{Ordering}
use Rattle.std.specs.Ordering.{nat_cmp, is_eq, match_ordering}
use Rattle.std.proofs.lemmas.Bool.Decides.{nat_tests}
use Rattle.std.proofs.lemmas.Bool.{cases_order, false≢true}
use Rattle.std.proofs.lemmas.Map.Keys.{sorted_head, sorted_tail}
use Rattle.rule_book.specs.ById.{AreSorted, at_id, placed_at}

module _ {X : Type 0} where
  -- each id is above k
  abbrev pub AllAbove : ℕ → List (ℕ × X) → Type 0
  AllAbove k [] = ⊤
  AllAbove k (row ∷ rows) = (k < row.0) × AllAbove k rows

  none_below : (k : ℕ) (rows : List (ℕ × X)) → AllAbove k rows → filter (λ row. nat_lt row.0 k) rows ≡ []
  none_below k [] above = refl
  none_below k (row ∷ rows) above = grind (arith, nat_tests, none_below k rows above.1, above.0)

  all_above : (k : ℕ) (rows : List (ℕ × X)) → AllAbove k rows → filter (λ row. nat_lt k row.0) rows ≡ rows
  all_above k [] above = refl
  all_above k (row ∷ rows) above = grind (arith, nat_tests, all_above k rows above.1, above.0)

  -- in front of greater ids
  pub placed_before : (k : ℕ) (rows own : List (ℕ × X)) → AllAbove k rows → placed_at rows k own ≡ own ++ rows
  placed_before k rows own above = rw (none_below k rows above, all_above k rows above) refl

  -- in place of the first row
  pub placed_here : (k : ℕ) (row : ℕ × X) (rows own : List (ℕ × X)) → row.0 ≡ k → AllAbove k rows → placed_at (row ∷ rows) k own ≡ own ++ rows
  placed_here k row rows own here above = grind (arith, nat_tests, none_below k rows above, all_above k rows above, here)

  -- behind a row of a smaller id
  pub placed_past : (k : ℕ) (row : ℕ × X) (rows own : List (ℕ × X)) → row.0 < k → placed_at (row ∷ rows) k own ≡ row ∷ placed_at rows k own
  placed_past k row rows own past = grind (arith, nat_tests)

  -- the first key is below the others
  above_first : (row : ℕ × X) (rows : List (ℕ × X)) → AllByRecursion (λ k. nat_cmp row.0 k ≡ Less) (keys_of rows) → AllAbove row.0 rows
  above_first row [] less = tt
  above_first row (next ∷ rows) less = (grind (arith, nat_tests, less.0), above_first row rows less.1)

  still_above : (k j : ℕ) (rows : List (ℕ × X)) → k ≤ j → AllAbove j rows → AllAbove k rows
  still_above k j [] le above = tt
  still_above k j (row ∷ rows) le above = (omega (arith, above.0), still_above k j rows le above.1)

less : (a b : ℕ) → a < b → nat_cmp a b ≡ Less
less a b h = grind (arith, nat_tests)

tied : (a b : ℕ) → b ≡ a → nat_cmp a b ≡ Equal
tied a b h = grind (arith, nat_tests)

greater : (a b : ℕ) → b < a → nat_cmp a b ≡ Greater
greater a b h = grind (arith, nat_tests)

none_at : {X : Type 0} (k : ℕ) (rows : List (ℕ × X)) → AllAbove k rows → lookup (is_at (nat_cmp k)) rows ≡ None
none_at k [] above = refl
none_at k (row ∷ rows) above = ap (λ o. cond (is_eq o) (Some row.1) (lookup (is_at (nat_cmp k)) rows)) (less k row.0 above.0) ∙ none_at k rows above.1

not_above : {X : Type 0} (k : ℕ) (rows : List (ℕ × X)) → AllAbove k rows → IsSome (lookup (is_at (nat_cmp k)) rows) → ⊥
not_above k rows above there = false≢true (rw (none_at k rows above) at there)

-- what the edits of a map's entries leave
module _ {X : Type 0} where
  above_of : (row : ℕ × X) (rows : List (ℕ × X)) → AreSorted (row ∷ rows) → AllAbove row.0 rows
  above_of row rows sorted = above_first row rows (sorted_head nat_cmp row.0 (keys_of rows) sorted)

  above_smaller : (k : ℕ) (row : ℕ × X) (rows : List (ℕ × X)) → AreSorted (row ∷ rows) → k < row.0 → AllAbove k (row ∷ rows)
  above_smaller k row rows sorted lt = (lt, still_above k row.0 rows (omega arith) (above_of row rows sorted))

  above_same : (k : ℕ) (row : ℕ × X) (rows : List (ℕ × X)) → AreSorted (row ∷ rows) → row.0 ≡ k → AllAbove k rows
  above_same k row rows sorted here = still_above k row.0 rows (omega arith) (above_of row rows sorted)

  pub placed-insert_entry : (rows : List (ℕ × X)) (k : ℕ) (x : X) → AreSorted rows → insert_entry nat_cmp rows k x ≡ placed_at rows k ((k, x) ∷ [])
  placed-insert_entry [] k x sorted = refl
  placed-insert_entry (row ∷ rows) k x sorted =
      let choose : Ordering → List (ℕ × X) = λ o. match_ordering o ((k, x) ∷ row ∷ rows) ((row.0, x) ∷ rows) (row ∷ insert_entry nat_cmp rows k x) in
      elim (cases_order k row.0) [
        | inl same ↦ ap choose (tied k row.0 (sym same)) ∙ ap (λ j. (j, x) ∷ rows) (sym same) ∙ sym (placed_here k row rows ((k, x) ∷ []) (sym same) (above_same k row rows sorted (sym same)))
        | inr (inl lt) ↦ ap choose (less k row.0 lt) ∙ sym (placed_before k (row ∷ rows) ((k, x) ∷ []) (above_smaller k row rows sorted lt))
        | inr (inr gt) ↦ ap choose (greater k row.0 gt) ∙ ap (λ more. row ∷ more) (placed-insert_entry rows k x (sorted_tail nat_cmp row.0 (keys_of rows) sorted)) ∙ sym (placed_past k row rows ((k, x) ∷ []) gt)
      ]

  pub placed-remove_entry : (rows : List (ℕ × X)) (k : ℕ) → AreSorted rows → remove_entry (is_at (nat_cmp k)) rows ≡ placed_at rows k []
  placed-remove_entry [] k sorted = refl
  placed-remove_entry (row ∷ rows) k sorted =
      let choose : Ordering → List (ℕ × X) = λ o. cond (is_eq o) rows (row ∷ remove_entry (is_at (nat_cmp k)) rows) in
      let more = placed-remove_entry rows k (sorted_tail nat_cmp row.0 (keys_of rows) sorted) in
      elim (cases_order k row.0) [
        | inl same ↦ ap choose (tied k row.0 (sym same)) ∙ sym (placed_here k row rows [] (sym same) (above_same k row rows sorted (sym same)))
        | inr (inl lt) ↦ ap choose (less k row.0 lt) ∙ ap (λ more. row ∷ more) (more ∙ placed_before k rows [] (above_smaller k row rows sorted lt).1) ∙ sym (placed_before k (row ∷ rows) [] (above_smaller k row rows sorted lt))
        | inr (inr gt) ↦ ap choose (greater k row.0 gt) ∙ ap (λ more. row ∷ more) more ∙ sym (placed_past k row rows [] gt)
      ]

  pub placed-set_value : (rows : List (ℕ × X)) (k : ℕ) (x : X) → AreSorted rows → IsSome (lookup (is_at (nat_cmp k)) rows) → set_value (is_at (nat_cmp k)) rows x ≡ placed_at rows k ((k, x) ∷ [])
  placed-set_value [] k x sorted there = absurd (false≢true there)
  placed-set_value (row ∷ rows) k x sorted there =
      let choose : Ordering → List (ℕ × X) = λ o. cond (is_eq o) ((row.0, x) ∷ rows) (row ∷ set_value (is_at (nat_cmp k)) rows x) in
      let found : Ordering → Type 0 = λ o. IsSome (cond (is_eq o) (Some row.1) (lookup (is_at (nat_cmp k)) rows)) in
      elim (cases_order k row.0) [
        | inl same ↦ ap choose (tied k row.0 (sym same)) ∙ ap (λ j. (j, x) ∷ rows) (sym same) ∙ sym (placed_here k row rows ((k, x) ∷ []) (sym same) (above_same k row rows sorted (sym same)))
        | inr (inl lt) ↦ absurd (not_above k rows (above_smaller k row rows sorted lt).1 (subst found (less k row.0 lt) there))
        | inr (inr gt) ↦ ap choose (greater k row.0 gt) ∙ ap (λ more. row ∷ more) (placed-set_value rows k x (sorted_tail nat_cmp row.0 (keys_of rows) sorted) (subst found (greater k row.0 gt) there)) ∙ sym (placed_past k row rows ((k, x) ∷ []) gt)
      ]

  -- a look-up in a map is one by id
  pub at_id-lookup : (rows : List (ℕ × X)) (k : ℕ) → lookup (is_at (nat_cmp k)) rows ≡ at_id rows k
  at_id-lookup [] k = refl
  at_id-lookup (row ∷ rows) k = grind (arith, nat_tests, at_id-lookup rows k)
