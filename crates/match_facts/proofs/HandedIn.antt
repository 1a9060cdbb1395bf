-- The lines of a sheet that names each player once.
use Rattle.std.proofs.Common.{ℕ, suc, ◌≡◌, ◌<◌, ◌≤◌, Bool, true, false, List, [], ◌∷◌, Option, Some, None, ◌==◌, inl, inr, length, get_or, take, fold, arith, refl, sym, ap, ◌∙◌}
use Rattle.std.specs.Prelude.{slice_index}
use Rattle.std.specs.Option.{option_map}
use Rattle.std.specs.List.{range_with_len, position_or_len, find}
use Rattle.std.proofs.lemmas.Bool.{cases_eq, cases_lt, false≢true, eq-eqb}
use Rattle.std.proofs.lemmas.Bool.Decides.{nat_tests}
use Rattle.std.proofs.lemmas.List.{get_or-take, length-take}
use Rattle.std.proofs.lemmas.List.Folds.{find_at, list_any_at}
use Rattle.std.proofs.lemmas.List.Sums.{fails_before_first}
use Rattle.std.proofs.lemmas.Option.{slice_get-get_or}
use Rattle.rule_book.specs.ById.{at_id}
use Rattle.rule_book.specs.MatchFacts.{Lines, players_in, with_line}
use Rattle.rule_book.specs.Repeats.{is_repeat, first_repeat}
use Rattle.match_facts.specs.Laws.{SheetsHaveTheirLines}
use Rattle.rule_book.proofs.AtId.{chosen_other, chosen_same, or_else, or_none}
use Rattle.match_facts.proofs.Maps.{lines_are_a_map}
use Rattle.match_facts.proofs.Repeats.{at, long, length-players}

map_none : {X Y : Type 0} (f : X → Y) (o : Option X) → option_map f o ≡ None → o ≡ None
map_none f None e = refl
map_none f (Some x) e = cc

past_all : (p : ℕ → Bool) (xs : List ℕ) → find p xs ≡ None → length xs ≤ position_or_len p xs
past_all p xs none = elim (cases_lt (position_or_len p xs) (length xs)) [
  | inr past ↦ past
  | inl within ↦ absurd (some_none (sym (find_at p xs ∙ slice_get-get_or xs (position_or_len p xs) 0 within) ∙ none))
]
  where
    some_none : Some (get_or xs (position_or_len p xs) 0) ≡ None → ⊥
    some_none e = cc

-- no place is_repeat
each_once : (ns : List ℕ) → first_repeat ns ≡ None → (k : ℕ) → k < length ns → is_repeat ns k ≡ false
each_once ns none k within =
    let all = range_with_len 0 (length ns) in
    let past : length all ≤ position_or_len (is_repeat ns) all = past_all (is_repeat ns) all (map_none (slice_index ns) (find (is_repeat ns) all) none) in
    rw (at ns k within) at (fails_before_first (is_repeat ns) all k 0 (omega (arith, past, long ns)))

-- no number stands at two places
apart : (ns : List ℕ) → first_repeat ns ≡ None → (i j : ℕ) → i < j → j < length ns → get_or ns i 0 ≡ get_or ns j 0 → ⊥
apart ns none i j lt within same =
    let test : ℕ → Bool = λ n. n == slice_index ns j in
    let here : test (get_or (take j ns) i 0) ≡ true = ap test (get_or-take j ns i 0 lt) ∙ eq-eqb (get_or ns i 0) (slice_index ns j) same in
    false≢true (sym (each_once ns none j within) ∙ list_any_at test (take j ns) i 0 (omega (arith, length-take j ns)) here)

-- a player who is not among them has no line
absent : (rows : Lines) (p : ℕ) → ((k : ℕ) → k < length rows → get_or (players_in rows) k 0 ≡ p → ⊥) → at_id rows p ≡ None
absent [] p none = refl
absent (row ∷ rows) p none = grind (arith, nat_tests, none 0 (omega arith), absent rows p (λ k lt. none (suc k) (omega arith)))

found_after : (lines so_far : Lines) (p : ℕ)
    → ((i j : ℕ) → i < j → j < length lines → get_or (players_in lines) i 0 ≡ get_or (players_in lines) j 0 → ⊥)
    → at_id (fold (λ so_far row. with_line so_far row.0 row.1) so_far lines) p ≡ or_else (at_id lines p) (at_id so_far p)
unfolding or_else
found_after [] so_far p once = refl
found_after (line ∷ lines) so_far p once =
    let rest = found_after lines (with_line so_far line.0 line.1) p (λ i j lt within. once (suc i) (suc j) (omega arith) (omega arith)) in
    let map = lines_are_a_map so_far line.0 line.1 p in
    elim (cases_eq p line.0) [
      | inl same ↦
          rest
          ∙ ap (λ o. or_else o (at_id (with_line so_far line.0 line.1) p)) (absent lines p (λ k lt e. once 0 (suc k) (omega arith) (omega arith) (sym (e ∙ same))))
          ∙ map ∙ chosen_same line.0 p (Some line.1) (at_id so_far p) same
          ∙ ap (λ o. or_else o (at_id so_far p)) (sym (chosen_same p line.0 (Some line.1) (at_id lines p) (sym same)))
      | inr other ↦
          rest
          ∙ ap (or_else (at_id lines p)) (map ∙ chosen_other line.0 p (Some line.1) (at_id so_far p) other)
          ∙ ap (λ o. or_else o (at_id so_far p)) (sym (chosen_other p line.0 (Some line.1) (at_id lines p) (λ e. other (sym e))))
    ]

pub sheets_have_their_lines : SheetsHaveTheirLines
sheets_have_their_lines lines player none =
    found_after lines [] player (λ i j lt within. apart (players_in lines) none i j lt (omega (arith, length-players lines)))
    ∙ or_none (at_id lines player)
