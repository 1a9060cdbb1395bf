-- The last commands as rows by caller: what a row in a caller's place leaves, and what brings back the old rows.
use Rattle.std.proofs.Common.{ℕ, ◌≡◌, ◌<◌, cond, List, [], ◌∷◌, ◌++◌, Option, Some, None, ◌==◌, true, false, arith, refl, sym, ap, subst, ◌∙◌, inl, inr}
use Rattle.std.specs.Option.{IsSome, MatchOption}
use Rattle.std.specs.Prelude.{Result, Ok, Err, OnOk, OnErr}
use Rattle.std.specs.List.{AllByRecursion}
use Rattle.std.specs.Map.{keys_of}
use Rattle.std.specs.Ordering.{nat_cmp}
use Rattle.std.specs.declared.cmp.Ordering.TheVariants.{Less}
use Rattle.std.proofs.lemmas.Bool.Decides.{nat_tests}
use Rattle.std.proofs.lemmas.Bool.{cases_order, false≢true}
use Rattle.std.proofs.lemmas.Map.Keys.{sorted_head, sorted_tail}
use Rattle.std.proofs.lemmas.Option.{same_Some}
use Rattle.rule_book.specs.ById.{at_id, placed_at}
use Rattle.season_book.specs.Book.{Last}
use Rattle.season_book.specs.declared.made.Made.{Made}
use Rattle.rule_book.specs.ById.{AreSorted}
use Rattle.rule_book.proofs.Placed.{AllAbove, placed_before, placed_here, placed_past}
use Rattle.season_book.specs.Hosts.{row_at}

above_first : (row : ℕ × Last) (rows : List (ℕ × Last)) → AllByRecursion (λ k. nat_cmp row.0 k ≡ Less) (keys_of rows) → AllAbove row.0 rows
above_first row [] less = tt
above_first row (next ∷ rows) less = (grind (arith, nat_tests, less.0), above_first row rows less.1)

lower_above : (k j : ℕ) (rows : List (ℕ × Last)) → k < j → AllAbove j rows → AllAbove k rows
lower_above k j [] lt above = tt
lower_above k j (row ∷ rows) lt above = (omega (arith, above.0), lower_above k j rows lt above.1)

above_of : (row : ℕ × Last) (rows : List (ℕ × Last)) → AreSorted (row ∷ rows) → AllAbove row.0 rows
above_of row rows sorted = above_first row rows (sorted_head nat_cmp row.0 (keys_of rows) sorted)

is_other : (a b : ℕ) → a < b → (b == a) ≡ false
is_other a b lt = grind (arith, nat_tests)

is_lower : (a b : ℕ) → b < a → (b == a) ≡ false
is_lower a b lt = grind (arith, nat_tests)

is_same : (a b : ℕ) → a ≡ b → (b == a) ≡ true
is_same a b same = grind (arith, nat_tests, same)

none_at : (k : ℕ) (rows : List (ℕ × Last)) → AllAbove k rows → at_id rows k ≡ None
none_at k [] above = refl
none_at k (row ∷ rows) above = ap (λ b. cond b (Some row.1) (at_id rows k)) (is_other k row.0 above.0) ∙ none_at k rows above.1

-- what stood in a caller's place, put back there, gives the old rows
pub placed_back : (rows : List (ℕ × Last)) (k : ℕ) (x : Last) → AreSorted rows → rows ≡ placed_at (placed_at rows k ((k, x) ∷ [])) k (row_at k (at_id rows k))
placed_back [] k x sorted = sym (placed_here k (k, x) [] [] refl tt)
placed_back (row ∷ rows) k x sorted =
    let above = above_of row rows sorted in
    elim (cases_order k row.0) [
      | inl same ↦
          let here : AllAbove k rows = subst (λ n. AllAbove n rows) (sym same) above in
          let found : at_id (row ∷ rows) k ≡ Some row.1 = ap (λ b. cond b (Some row.1) (at_id rows k)) (is_same k row.0 same) in
          sym (ap (λ all. placed_at all k (row_at k (at_id (row ∷ rows) k))) (placed_here k row rows ((k, x) ∷ []) (sym same) here)
          ∙ placed_here k (k, x) rows (row_at k (at_id (row ∷ rows) k)) refl here
          ∙ ap (λ o. row_at k o ++ rows) found
          ∙ ap (λ n. (n, row.1) ∷ rows) same)
      | inr (inl lt) ↦
          let here : AllAbove k (row ∷ rows) = (lt, lower_above k row.0 rows lt above) in
          sym (ap (λ all. placed_at all k (row_at k (at_id (row ∷ rows) k))) (placed_before k (row ∷ rows) ((k, x) ∷ []) here)
          ∙ placed_here k (k, x) (row ∷ rows) (row_at k (at_id (row ∷ rows) k)) refl here
          ∙ ap (λ o. row_at k o ++ row ∷ rows) (none_at k (row ∷ rows) here))
      | inr (inr gt) ↦
          let found : at_id (row ∷ rows) k ≡ at_id rows k = ap (λ b. cond b (Some row.1) (at_id rows k)) (is_lower k row.0 gt) in
          sym (ap (λ all. placed_at all k (row_at k (at_id (row ∷ rows) k))) (placed_past k row rows ((k, x) ∷ []) gt)
          ∙ placed_past k row (placed_at rows k ((k, x) ∷ [])) (row_at k (at_id (row ∷ rows) k)) gt
          ∙ ap (λ o. row ∷ placed_at (placed_at rows k ((k, x) ∷ [])) k (row_at k o)) found
          ∙ ap (λ more. row ∷ more) (sym (placed_back rows k x (sorted_tail nat_cmp row.0 (keys_of rows) sorted))))
    ]

-- a command is a caller's last one exactly where it is the one that is found
pub repeated_at : (found : Option Last) (last : Last) (made_by : Made → Last) (result : Option Made) → found ≡ Some last
    → MatchOption result ((made : Made) → last ≡ made_by made → ⊥) (λ made. last ≡ made_by made)
    → MatchOption result ((made : Made) → found ≡ Some (made_by made) → ⊥) (λ made. found ≡ Some (made_by made))
repeated_at found last made_by None here other = λ made at. other made (same_Some last (made_by made) (sym here ∙ at))
repeated_at found last made_by (Some made) here same = here ∙ ap Some same

-- a row that is there is replaced without memory
pub replaced : {T E : Type 0} (outcome : Result T E) (found : Option Last) (new next : List (ℕ × Last)) → IsSome found → OnErr outcome (found ≡ None) → OnOk outcome (new ≡ next) → new ≡ next
replaced (Ok value) found new next there err ok = ok
replaced (Err failed) found new next there err ok = absurd (false≢true (subst IsSome err there))
