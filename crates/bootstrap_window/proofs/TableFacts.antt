-- A table in which one player's totals changed.
use Rattle.std.proofs.Common.{zero, suc, ◌≡◌, ◌≤◌, ◌+◌, ◌==◌, ◌∙◌, ◌∷◌, [], ◌++◌, ℕ, ℤ, List, Option, Some, None, Bool, true, false, append-nil, ap, arith, length, map, take, refl, sym, subst}
use Rattle.std.specs.Prelude.{nat_eq}
use Rattle.std.specs.List.{flat_map, slice_get}
use Rattle.std.specs.Option.{option_map_or}
use Rattle.std.specs.Map.{lookup}
use Rattle.std.proofs.lemmas.Int.{ints}
use Rattle.std.proofs.lemmas.List.{length-append, map-append}
use Rattle.std.proofs.lemmas.List.Concat.{flat_map-append}
use Rattle.rule_book.specs.declared.line.Line.{Line}
use Rattle.rule_book.specs.declared.season.Fixture.{Fixture}
use Rattle.rule_book.specs.ById.{at_id}
use Rattle.rule_book.specs.MatchFacts.{Lines, MatchFacts, line_of}
use Rattle.rule_book.specs.PlayerFigures.{line_beside}
use Rattle.season_book.specs.Book.{Facts}
use Rattle.season_book.specs.Elements.{totals_over}
use Rattle.season_book.specs.LineSums.{line_bonus, line_bps, line_points}
use Rattle.bootstrap_window.specs.declared.totals.Totals.{Totals}
use Rattle.bootstrap_window.specs.Tables.{AllSmall, AreSmall, Sums, Table, no_totals, or_none, told, totals_in, with_line}
use Rattle.season_views.proofs.Lists.{take_next}
use Rattle.season_views.proofs.LinesHeld.{other_line, own_line}
use Rattle.bootstrap_window.proofs.PicksHeld.{equal}
use Rattle.bootstrap_window.proofs.TotalFacts.{totals_push}

-- no totals have too much where his have not
pub small_all : (old new : Table) (player : ℕ) (after : Totals) → totals_in new player ≡ after → AreSmall after → ((p : ℕ) → (player == p) ≡ false → totals_in new p ≡ totals_in old p) → AllSmall old → AllSmall new
small_all old new player after own small others before p = by_test (player == p) refl
  where
    by_test : (b : Bool) → (player == p) ≡ b → AreSmall (totals_in new p)
    by_test true same = subst (λ q. AreSmall (totals_in new q)) (equal player p same) (subst AreSmall (sym own) small)
    by_test false other = subst AreSmall (sym (others p other)) (before p)

-- a line, if there is one, beside its fixture
abbrev pub beside : ℕ → Option Line → List (ℕ × Line)
beside f line = option_map_or (λ l. (f, l) ∷ []) line []

module _ (facts : Facts) (f : ℕ) (rows : Lines) (k : ℕ) (row : ℕ × Line) (old new : Table) (at : slice_get rows k ≡ Some row) (none : at_id (take k rows) row.0 ≡ None) where
  line_now : at_id (take (k + 1) rows) row.0 ≡ Some row.1
  line_now = ap (λ rs. at_id rs row.0) (take_next rows k row at) ∙ own_line (take k rows) row none

  line_then : (p : ℕ) → (row.0 == p) ≡ false → at_id (take (k + 1) rows) p ≡ at_id (take k rows) p
  line_then p other = ap (λ rs. at_id rs p) (take_next rows k row at) ∙ other_line (take k rows) row p other

  -- the sums with one line more
  pub row_more : (points bps : ℤ) (bonus : ℕ) (before : ℕ → List (ℕ × Line)) → told (totals_in new row.0) ≡ with_line (told (totals_in old row.0)) row.1 points bps bonus
      → points ≡ line_points facts row.0 (f, row.1) → bps ≡ line_bps facts row.0 (f, row.1) → bonus ≡ line_bonus facts row.0 (f, row.1)
      → ((p : ℕ) → (row.0 == p) ≡ false → totals_in new p ≡ totals_in old p)
      → Sums facts old (λ p. before p ++ beside f (at_id (take k rows) p)) → Sums facts new (λ p. before p ++ beside f (at_id (take (k + 1) rows) p))
  row_more points bps bonus before own is_points is_bps is_bonus others sums p = by_test (row.0 == p) refl
    where
      had : told (totals_in old row.0) ≡ totals_over facts row.0 (before row.0)
      had = sums row.0 ∙ ap (λ o. totals_over facts row.0 (before row.0 ++ beside f o)) none ∙ ap (totals_over facts row.0) (append-nil (before row.0))

      has : told (totals_in new row.0) ≡ totals_over facts row.0 (before row.0 ++ beside f (at_id (take (k + 1) rows) row.0))
      has =
          own ∙ (λ i. with_line (had i) row.1 (is_points i) (is_bps i) (is_bonus i))
          ∙ sym (totals_push facts row.0 (before row.0) (f, row.1))
          ∙ ap (λ o. totals_over facts row.0 (before row.0 ++ beside f o)) (sym line_now)

      by_test : (b : Bool) → (row.0 == p) ≡ b → told (totals_in new p) ≡ totals_over facts p (before p ++ beside f (at_id (take (k + 1) rows) p))
      by_test true same = subst (λ q. told (totals_in new q) ≡ totals_over facts q (before q ++ beside f (at_id (take (k + 1) rows) q))) (equal row.0 p same) has
      by_test false other = ap told (others p other) ∙ sums p ∙ ap (λ o. totals_over facts p (before p ++ beside f o)) (sym (line_then p other))

  -- who has no line yet has what he had
  pub same_more : (first : Table) → ((p : ℕ) → (row.0 == p) ≡ false → totals_in new p ≡ totals_in old p) → ((p : ℕ) → at_id (take k rows) p ≡ None → totals_in old p ≡ totals_in first p)
      → (p : ℕ) → at_id (take (k + 1) rows) p ≡ None → totals_in new p ≡ totals_in first p
  same_more first others same p absent = by_test (row.0 == p) refl
    where
      by_test : (b : Bool) → (row.0 == p) ≡ b → totals_in new p ≡ totals_in first p
      by_test true is = absurd (cc (sym (ap (λ q. at_id (take (k + 1) rows) q) (sym (equal row.0 p is)) ∙ line_now) ∙ absent))
      by_test false other = others p other ∙ same p (sym (line_then p other) ∙ absent)

-- the lines of a player in the first fixtures and in one more
pub lines_more : (facts : MatchFacts) (p : ℕ) (fixtures : List Fixture) (i : ℕ) (x : Fixture) → slice_get fixtures i ≡ Some x
    → flat_map (line_beside facts p) (map (λ (y : Fixture). y.id) (take (i + 1) fixtures)) ≡ flat_map (line_beside facts p) (map (λ (y : Fixture). y.id) (take i fixtures)) ++ line_beside facts p x.id
lines_more facts p fixtures i x at =
    ap (λ xs. flat_map (line_beside facts p) (map (λ (y : Fixture). y.id) xs)) (take_next fixtures i x at)
    ∙ ap (flat_map (line_beside facts p)) (map-append (λ (y : Fixture). y.id) (take i fixtures) (x ∷ []))
    ∙ flat_map-append (line_beside facts p) (map (λ (y : Fixture). y.id) (take i fixtures)) (x.id ∷ [])
    ∙ ap (λ l. flat_map (line_beside facts p) (map (λ (y : Fixture). y.id) (take i fixtures)) ++ l) (append-nil (line_beside facts p x.id))

at_most_one : (f : ℕ) (o : Option Line) → length (beside f o) ≤ 1
at_most_one f None = omega arith
at_most_one f (Some line) = omega arith

-- he has at most one in each
pub few_lines : (facts : MatchFacts) (p : ℕ) (ids : List ℕ) → length (flat_map (line_beside facts p) ids) ≤ length ids
few_lines facts p [] = omega arith
few_lines facts p (f ∷ ids) =
    let one = at_most_one f (line_of facts f p) in
    let rest = few_lines facts p ids in
    omega (arith, one, rest, length-append (line_beside facts p f) (flat_map (line_beside facts p) ids))

-- a table in which nothing stands
pub none_in : (table : Table) → table.entries ≡ [] → (p : ℕ) → totals_in table p ≡ no_totals
none_in table empty p = ap (λ es. or_none (lookup (nat_eq p) es)) empty

-- totals of no line have not too much
pub none_small : AreSmall no_totals
none_small = record {
  played = omega arith;
  assists = omega arith;
  bonus = omega arith;
  bps = (omega (arith, ints), omega (arith, ints));
  clean_sheets = omega arith;
  conceded = omega arith;
  goals = omega arith;
  minutes = omega arith;
  own_goals = omega arith;
  penalties_missed = omega arith;
  penalties_saved = omega arith;
  points = (omega (arith, ints), omega (arith, ints));
  red_cards = omega arith;
  saves = omega arith;
  yellow_cards = omega arith;
}

pub length_taken : {X : Type 0} (xs : List X) (i : ℕ) → length (take i xs) ≤ i
length_taken xs zero = omega arith
length_taken [] (suc i) = omega arith
length_taken (x ∷ xs) (suc i) = let rest = length_taken xs i in omega (arith, rest)
