-- The first of some lines that breaks a rule.
use Rattle.std.proofs.Common.{ℕ, ◌+◌, ◌≡◌, ◌<◌, ◌≤◌, ◌++◌, true, false, List, [], ◌∷◌, Some, None, ◌==◌, ◌||◌, length, get_or, take, drop, map, arith, refl, sym, ap, subst, ne_eqb, ◌∙◌, zero-add}
use Rattle.std.specs.Prelude.{All, max, slice_index, slice_get}
use Rattle.std.specs.Option.{option_map}
use Rattle.std.specs.List.{list_any, range_with_len, position_or_len, take-map}
use Rattle.std.proofs.lemmas.List.{get_or-map, length-map, at_drop_more, take_more}
use Rattle.std.proofs.lemmas.List.Elements.{All-append, All-cons, All-weaker}
use Rattle.std.proofs.lemmas.List.FromFn.{get_or-range_with_len, length-range_with_len}
use Rattle.std.proofs.lemmas.List.Folds.{find_at, list_any_none}
use Rattle.std.proofs.lemmas.List.Sums.{position_or_len_is}
use Rattle.std.proofs.lemmas.Option.{slice_get-get_or, slice_get_past}
use Rattle.rule_book.specs.declared.line.Line.{Line}
use Rattle.rule_book.specs.MatchFacts.{Lines, players_in}
use Rattle.rule_book.specs.MatchCalls.{lines_range}
use Rattle.rule_book.specs.Repeats.{is_repeat, first_repeat}
use Rattle.rule_book.specs.Refusals.{first_broken}
use Rattle.rule_book.specs.Figures.{line_range}
use Rattle.fpl_base.specs.declared.rule.Rule.{Rule}

module _ (ns : List ℕ) where
  pub at : (k : ℕ) → k < length ns → get_or (range_with_len 0 (length ns)) k 0 ≡ k
  at k lt = get_or-range_with_len 0 (length ns) k 0 lt ∙ zero-add k

  pub long : length (range_with_len 0 (length ns)) ≡ length ns
  long = length-range_with_len 0 (length ns)

  -- the first place that is_repeat
  pub repeat_found : (i : ℕ) → i < length ns → is_repeat ns i ≡ true → ((k : ℕ) → k < i → is_repeat ns k ≡ false) → first_repeat ns ≡ Some (get_or ns i 0)
  repeat_found i within here before =
      let all = range_with_len 0 (length ns) in
      let place : position_or_len (is_repeat ns) all ≡ i = position_or_len_is (is_repeat ns) all i 0 (omega (arith, long)) (λ k lt. rw (at k (omega arith)) (before k lt)) (λ lt. rw (at i within) here) in
      ap (option_map (slice_index ns)) (find_at (is_repeat ns) all ∙ ap (slice_get all) place ∙ slice_get-get_or all i 0 (omega (arith, long)) ∙ ap Some (at i within))

  -- and where none does
  pub no_repeat : ((k : ℕ) → k < length ns → is_repeat ns k ≡ false) → first_repeat ns ≡ None
  no_repeat before =
      let all = range_with_len 0 (length ns) in
      let place : position_or_len (is_repeat ns) all ≡ length ns = position_or_len_is (is_repeat ns) all (length ns) 0 (omega (arith, long)) (λ k lt. rw (at k lt) (before k lt)) (λ lt. absurd (omega (arith, long))) in
      ap (option_map (slice_index ns)) (find_at (is_repeat ns) all ∙ ap (slice_get all) place ∙ slice_get_past all (length ns) (omega (arith, long)))

any-players : (rows : Lines) (p : ℕ) → list_any (λ n. n == p) (players_in rows) ≡ list_any (λ row. row.0 == p) rows
any-players [] p = refl
any-players (row ∷ rows) p = ap (λ b. (row.0 == p) || b) (any-players rows p)

-- the earlier lines tell whether a player is_repeat
pub is_repeat-players : (rows : Lines) (i p : ℕ) → p ≡ slice_index (players_in rows) i → is_repeat (players_in rows) i ≡ list_any (λ row. row.0 == p) (take i rows)
is_repeat-players rows i p e = rw (← e, take-map) (any-players (take i rows) p)

-- the player of the line at a place
pub player_at : (rows : Lines) (i : ℕ) (row : ℕ × Line) → i < length rows → row ≡ get_or rows i row → row.0 ≡ get_or (players_in rows) i 0
player_at rows i row within e = ap (λ (r : ℕ × Line). r.0) e ∙ sym (get_or-map (λ (r : ℕ × Line). r.0) rows i row 0 within)

pub length-players : (rows : Lines) → length (players_in rows) ≡ length rows
length-players rows = length-map rows (λ (r : ℕ × Line). r.0)

-- the first wrong line is the next one
pub first_wrong : (rows : Lines) (i : ℕ) (row : ℕ × Line) (rule : Rule) → lines_range rows ≡ lines_range (drop i rows) → i < length rows → row ≡ get_or rows i row → line_range row.1 ≡ Some rule → lines_range rows ≡ Some rule
first_wrong rows i row rule so_far within e wrong =
    so_far ∙ at_drop_more lines_range rows i row within ∙ ap (λ r. lines_range (r ∷ drop (i + 1) rows)) (sym e) ∙ ap (λ o. first_broken (o ∷ map (λ (r : ℕ × Line). line_range r.1) (drop (i + 1) rows))) wrong

-- no player of the lines so far is above the greatest of the last step and this one
pub below_next : (rows : Lines) (i m g : ℕ) (row : ℕ × Line) → i < length rows → row ≡ get_or rows i row → g ≡ max m row.0
    → All (λ (r : ℕ × Line). r.0 ≤ m) (take i rows) → All (λ (r : ℕ × Line). r.0 ≤ g) (take (i + 1) rows)
below_next rows i m g row within is greatest below =
    let Below : ℕ × Line → Type 0 = λ r. r.0 ≤ g in
    let first : All Below (take i rows) = All-weaker (λ (r : ℕ × Line). r.0 ≤ m) Below (λ r h. omega (arith, h, greatest)) (take i rows) below in
    let more : take (i + 1) rows ≡ take i rows ++ row ∷ [] = take_more rows i row within ∙ ap (λ r. take i rows ++ r ∷ []) (sym is) in
    subst (All Below) (sym more) (All-append Below (take i rows) (row ∷ []) first (All-cons Below row [] (omega (arith, greatest)) (λ k d lt. absurd (omega (arith, lt)))))

-- who is above all of them is none of them
pub not_among : (rows : Lines) (m p : ℕ) → m < p → All (λ (r : ℕ × Line). r.0 ≤ m) rows → list_any (λ row. row.0 == p) rows ≡ false
not_among rows m p above below =
    list_any_none (λ (row : ℕ × Line). row.0 == p) rows
    (All-weaker (λ (r : ℕ × Line). r.0 ≤ m) (λ (r : ℕ × Line). (r.0 == p) ≡ false) (λ r h. ne_eqb r.0 p (λ e. omega (arith, h, above, e))) rows below)
