-- The lines of a fixture once some were put in or taken out, and what refuses them.
use Rattle.std.proofs.Common.{◌≡◌, ◌≤◌, ◌+◌, ◌&&◌, ℕ, Bool, true, false, List, [], ◌∷◌, Option, Some, None, fold, length, map, nat_lt, arith, refl, sym, ap, subst, ◌∙◌, inl, inr, if◌then◌else◌}
use Rattle.std.specs.List.{AllByRecursion as Each, list_all}
use Rattle.std.proofs.lemmas.Bool.{cases_eq, false≢true}
use Rattle.std.proofs.lemmas.Bool.Decides.{nat_tests}
use Rattle.std.proofs.lemmas.Option.{none-some, same_Some}
use Rattle.fpl_base.specs.declared.rule.Rule.{Rule}
use Rattle.rule_book.specs.declared.line.Line.{Line}
use Rattle.rule_book.specs.ById.{placed_at}
use Rattle.rule_book.specs.Figures.{line_range}
use Rattle.rule_book.specs.MatchCalls.{lines_full, lines_range, not_locked}
use Rattle.rule_book.specs.MatchFacts.{Lines, by_player, line_in, with_line, without_line}
use Rattle.rule_book.specs.Refusals.{first_broken}
use Rattle.rule_book.proofs.AtId.{one_other, one_same, placed_other, placed_same}
use Rattle.lawful_books.proofs.Crowds.{length_put, length_taken}

-- What refuses nothing.

pub none_first : (broken : Option Rule) (more : List (Option Rule)) → first_broken (broken ∷ more) ≡ None → (broken ≡ None) × (first_broken more ≡ None)
none_first None more none = (refl, none)
none_first (Some broken) more none = absurd (none-some broken (sym none))

-- a refusal that does not come, behind a test
pub not_refused : (b : Bool) (broken : Rule) → (if b then Some broken else None) ≡ None → b ≡ false
not_refused true broken none = absurd (none-some broken (sym none))
not_refused false broken none = refl

pub neither_refused : (b : Bool) (broken : Rule) (more : Option Rule) → (if b then Some broken else more) ≡ None → (b ≡ false) × (more ≡ None)
neither_refused true broken more none = absurd (none-some broken (sym none))
neither_refused false broken more none = (refl, none)

pub holds_unless : (b : Bool) (broken : Rule) → (if b then None else Some broken) ≡ None → b ≡ true
holds_unless true broken none = refl
holds_unless false broken none = absurd (none-some broken (sym none))

pub is_locked : (f : ℕ) (locked : Bool) → not_locked f locked ≡ None → locked ≡ true
is_locked f locked none = unlocked locked none
  where
    unlocked : (locked : Bool) → not_locked f locked ≡ None → locked ≡ true
    unlocked true none = refl
    unlocked false none = absurd (none-some _ (sym none))

pub are_few : (lines : Lines) → lines_full lines ≡ None → length lines ≤ 64
are_few lines none = by (nat_lt 64 (length lines)) refl none
  where
    by : (b : Bool) → nat_lt 64 (length lines) ≡ b → lines_full lines ≡ None → length lines ≤ 64
    by b is none = let off : nat_lt 64 (length lines) ≡ false = not_refused (nat_lt 64 (length lines)) _ none in grind (arith, nat_tests, off)

-- Lines by player.

-- what holds of a player's line that is put in and of those before holds of each
pub line_put : (Q : ℕ → Line → Type 0) (lines : Lines) (p : ℕ) (line : Line) (q : ℕ) (l : Line) → Q p line → (line_in lines q ≡ Some l → Q q l)
    → line_in (with_line lines p line) q ≡ Some l → Q q l
line_put Q lines p line q l here there at = elim (cases_eq q p) [
  | inl same ↦
      let is : line ≡ l = same_Some line l (sym (ap (line_in (with_line lines p line)) same ∙ placed_same lines ((p, line) ∷ []) p ∙ one_same p line) ∙ at) in
      subst (λ l. Q q l) is (subst (λ r. Q r line) (sym same) here)
  | inr other ↦ there (sym (placed_other lines ((p, line) ∷ []) p q other (one_other p q line other)) ∙ at)
]

pub line_taken : (lines : Lines) (p q : ℕ) (l : Line) → line_in (without_line lines p) q ≡ Some l → line_in lines q ≡ Some l
line_taken lines p q l at = elim (cases_eq q p) [
  | inl same ↦ absurd (none-some l (sym (ap (line_in (without_line lines p)) same ∙ placed_same lines [] p) ∙ at))
  | inr other ↦ sym (placed_other lines [] p q other refl) ∙ at
]

lines_put_in : (Q : ℕ → Line → Type 0) (lines so_far : Lines) → Each (λ row. Q row.0 row.1) lines → ((q : ℕ) (l : Line) → line_in so_far q ≡ Some l → Q q l)
    → (q : ℕ) (l : Line) → line_in (fold (λ so_far row. with_line so_far row.0 row.1) so_far lines) q ≡ Some l → Q q l
lines_put_in Q [] so_far each before q l at = before q l at
lines_put_in Q (row ∷ lines) so_far each before q l at =
    lines_put_in Q lines (with_line so_far row.0 row.1) each.1 (λ r m here. line_put Q so_far row.0 row.1 r m each.0 (before r m) here) q l at

pub by_player_found : (Q : ℕ → Line → Type 0) (lines : Lines) → Each (λ row. Q row.0 row.1) lines → (q : ℕ) (l : Line) → line_in (by_player lines) q ≡ Some l → Q q l
by_player_found Q lines each q l at = lines_put_in Q lines [] each (λ r m none. absurd (none-some m none)) q l at

-- How many rows there are once some were put in or taken out.

module _ {X : Type 0} where
  pub few_put : (rows : List (ℕ × X)) (k : ℕ) (x : X) → length (placed_at rows k ((k, x) ∷ [])) ≤ length rows + 1
  few_put rows k x = length_put (λ (row : ℕ × X). row.0) rows (k, x)

  pub few_taken : (rows : List (ℕ × X)) (k : ℕ) → length (placed_at rows k []) ≤ length rows
  few_taken rows k = length_taken (λ (row : ℕ × X). row.0) k rows

  few_rows : (rows so_far : List (ℕ × X)) → length (fold (λ so_far row. placed_at so_far row.0 (row ∷ [])) so_far rows) ≤ length so_far + length rows
  few_rows [] so_far = omega arith
  few_rows (row ∷ rows) so_far =
      let more : length (fold (λ so_far row. placed_at so_far row.0 (row ∷ [])) (placed_at so_far row.0 (row ∷ [])) rows) ≤ length (placed_at so_far row.0 (row ∷ [])) + length rows
      = few_rows rows (placed_at so_far row.0 (row ∷ [])) in
      let one : length (placed_at so_far row.0 (row ∷ [])) ≤ length so_far + 1 = few_put so_far row.0 row.1 in
      omega (arith, more, one)

  pub few_by_id : (rows : List (ℕ × X)) → length (fold (λ so_far row. placed_at so_far row.0 (row ∷ [])) [] rows) ≤ length rows
  few_by_id rows = omega (arith, few_rows rows [])

-- a list of lines in which each is right, of players who are there
pub rows_right : (has : ℕ → Bool) (lines : Lines) → list_all (λ row. has row.0) lines ≡ true → lines_range lines ≡ None
    → Each (λ row. (has row.0 ≡ true) × (line_range row.1 ≡ None)) lines
rows_right has [] there right = tt
rows_right has (row ∷ lines) there right =
    let both = parts (has row.0) there in
    let ranges = none_first (line_range row.1) (map (λ row. line_range row.1) lines) right in
    ((both.0, ranges.0), rows_right has lines both.1 ranges.1)
  where
    parts : (b : Bool) → (b && list_all (λ row. has row.0) lines) ≡ true → (b ≡ true) × (list_all (λ row. has row.0) lines ≡ true)
    parts true all = (refl, all)
    parts false all = absurd (false≢true all)
