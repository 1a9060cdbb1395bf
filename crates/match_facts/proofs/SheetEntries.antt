-- What an edit of a table's entries makes of the facts.
use Rattle.std.proofs.Common.{ℕ, ◌+◌, ◌≡◌, ◌<◌, ◌≤◌, Bool, true, false, List, [], ◌∷◌, Option, Some, None, IsSome, filter, nat_lt, length, arith, refl, sym, ap, subst, ◌∙◌, unwrap_or, fold, if◌then◌else◌}
use Rattle.std.specs.BTreeMap.{insert_entry, is_at}
use Rattle.std.specs.List.Sorted.{IsStrictlySortedBy}
use Rattle.std.specs.Map.{lookup, remove_entry, set_value}
use Rattle.std.specs.Ordering.{nat_cmp}
use Rattle.std.proofs.lemmas.Grind.{common_steps}
use Rattle.std.proofs.lemmas.Bool.Decides.{nat_tests}
use Rattle.std.proofs.lemmas.List.{length-append}
use Rattle.rule_book.specs.declared.line.Line.{Line}
use Rattle.std.proofs.lemmas.Map.{keys-set_value}
use Rattle.std.proofs.lemmas.Map.Steps.{set_value_same}
use Rattle.rule_book.specs.ById.{at_id, placed_at}
use Rattle.rule_book.specs.MatchFacts.{Lines, with_line, by_player, Sheet, bare_sheet, tells_facts, MatchFacts, sheet_of, with_sheet}
use Rattle.rule_book.specs.ById.{AreSorted}
use Rattle.rule_book.proofs.Placed.{placed-insert_entry, placed-remove_entry, placed-set_value, at_id-lookup}

module _ {X : Type 0} where
  -- nothing is removed where nothing is found
  remove_entry-none : (test : ℕ → Bool) (rows : List (ℕ × X)) → lookup test rows ≡ None → remove_entry test rows ≡ rows
  remove_entry-none test [] none = refl
  remove_entry-none test (row ∷ rows) none = grind (arith, common_steps, remove_entry-none test rows)

  -- a value that was written does not matter once it is removed
  remove_entry-set_value : (test : ℕ → Bool) (rows : List (ℕ × X)) (x : X) → remove_entry test (set_value test rows x) ≡ remove_entry test rows
  remove_entry-set_value test [] x = refl
  remove_entry-set_value test (row ∷ rows) x = grind (arith, common_steps, remove_entry-set_value test rows x)

  pub is_some_found : (o : Option X) (x : X) → Some x ≡ o → IsSome o
  is_some_found o x e = subst IsSome e refl

module _ (facts : MatchFacts) (fixture : ℕ) where
  -- the sheet that a table has
  pub sheet_found : (sheet : Sheet) → Some sheet ≡ at_id facts fixture → sheet ≡ sheet_of facts fixture
  sheet_found sheet e = ap (λ o. unwrap_or o bare_sheet) e

  pub sheet_absent : None ≡ at_id facts fixture → bare_sheet ≡ sheet_of facts fixture
  sheet_absent e = ap (λ o. unwrap_or o bare_sheet) e

  -- a sheet that was not changed
  pub with_same : (sheet : Sheet) → Some sheet ≡ at_id facts fixture → set_value (is_at (nat_cmp fixture)) facts sheet ≡ facts
  with_same sheet there = set_value_same (is_at (nat_cmp fixture)) facts sheet (at_id-lookup facts fixture ∙ sym there)

  module _ (sorted : AreSorted facts) (sheet : Sheet) where
    -- a sheet written over another leaves the fixtures as they are
    pub still_sorted : AreSorted (set_value (is_at (nat_cmp fixture)) facts sheet)
    still_sorted = subst (IsStrictlySortedBy nat_cmp) (sym (keys-set_value (is_at (nat_cmp fixture)) facts sheet)) sorted

    -- a sheet put in
    pub with_inserted : tells_facts sheet ≡ true → insert_entry nat_cmp facts fixture sheet ≡ with_sheet facts fixture sheet
    with_inserted tells = placed-insert_entry facts fixture sheet sorted ∙ ap (λ b. placed_at facts fixture (if b then (fixture, sheet) ∷ [] else [])) (sym tells)

    -- written over the old one
    pub with_written : (old : Sheet) → Some old ≡ at_id facts fixture → tells_facts sheet ≡ true → set_value (is_at (nat_cmp fixture)) facts sheet ≡ with_sheet facts fixture sheet
    with_written old there tells = placed-set_value facts fixture sheet sorted (is_some_found (lookup (is_at (nat_cmp fixture)) facts) old (there ∙ sym (at_id-lookup facts fixture))) ∙ ap (λ b. placed_at facts fixture (if b then (fixture, sheet) ∷ [] else [])) (sym tells)

    -- taken away
    pub with_removed : tells_facts sheet ≡ false → remove_entry (is_at (nat_cmp fixture)) facts ≡ with_sheet facts fixture sheet
    with_removed bare = placed-remove_entry facts fixture sorted ∙ ap (λ b. placed_at facts fixture (if b then (fixture, sheet) ∷ [] else [])) (sym bare)

    -- taken away once it was written over
    pub with_cleared : tells_facts sheet ≡ false → remove_entry (is_at (nat_cmp fixture)) (set_value (is_at (nat_cmp fixture)) facts sheet) ≡ with_sheet facts fixture sheet
    with_cleared bare = remove_entry-set_value (is_at (nat_cmp fixture)) facts sheet ∙ with_removed bare

    -- left away
    pub with_none : None ≡ at_id facts fixture → tells_facts sheet ≡ false → facts ≡ with_sheet facts fixture sheet
    with_none absent bare = sym (remove_entry-none (is_at (nat_cmp fixture)) facts (at_id-lookup facts fixture ∙ sym absent)) ∙ with_removed bare

-- one more line than there were, at most
below_or_above : (k : ℕ) (lines : Lines) → length (filter (λ row. nat_lt row.0 k) lines) + length (filter (λ row. nat_lt k row.0) lines) ≤ length lines
below_or_above k [] = omega arith
below_or_above k (row ∷ lines) = grind (arith, nat_tests, below_or_above k lines)

pub length-with_line : (lines : Lines) (player : ℕ) (line : Line) → length (with_line lines player line) ≤ length lines + 1
length-with_line lines player line = simp length-append (omega (arith, below_or_above player lines))

-- and that one at least
pub a_line_tells : (lines : Lines) (player : ℕ) (line : Line) (finished : Bool) → tells_facts (record { lines = with_line lines player line; finished = finished }) ≡ true
a_line_tells lines player line finished =
    let some : 0 < length (with_line lines player line) = simp length-append (omega arith) in
    grind (arith, nat_tests, some)

lines_so_far : (rows lines : Lines) → length (fold (λ so_far row. with_line so_far row.0 row.1) rows lines) ≤ length rows + length lines
lines_so_far rows [] = omega arith
lines_so_far rows (line ∷ lines) = omega (arith, lines_so_far (with_line rows line.0 line.1) lines, length-with_line rows line.0 line.1)

-- as many lines as were handed in, at most
pub length-by_player : (lines : Lines) → length (by_player lines) ≤ length lines
length-by_player lines = omega (arith, lines_so_far [] lines)
