-- The rows of players that ascend.
use Rattle.std.proofs.Common.{◌≡◌, ◌≢◌, ◌∙◌, ◌<◌, ◌≤◌, ◌+◌, ℕ, List, [], ◌∷◌, ◌++◌, Option, Some, None, IfSome, All, AllPairs, length, map, get_or, arith, sym, subst}
use Rattle.std.proofs.lemmas.List.{get_or-map, length-map, map_push, length_push}
use Rattle.std.proofs.lemmas.List.Elements.{All-push, All-weaker}
use Rattle.std.proofs.lemmas.List.Quantifiers.{all_pairs_push}
use Rattle.rule_book.specs.FigureRange.{IsWithin}
use Rattle.rule_book.specs.Ranks.{AllDiffer}
use Rattle.squad_rules.specs.Elevens.{Row}
use Rattle.fpl_dreaming.specs.Rows.{with_row}

-- rows of some of the first so many players
pub record AreRowsOf (players : List ℕ) (count : ℕ) (rows : List Row) : Type 0 where
  pub few : length rows ≤ count
  pub before : All (λ row. (j : ℕ) → count ≤ j → j < length players → row.0 < get_or players j 0) rows
  pub differ : AllDiffer (map (λ row. row.0) rows)
  pub near : All (λ row. IsWithin 1000000 row.2) rows

more_rows : (players : List ℕ) (count : ℕ) (rows : List Row) (row : Row) → count < length players → AllPairs (λ a b. a < b) players → row.0 ≡ get_or players count 0
    → IsWithin 1000000 row.2 → AreRowsOf players count rows → AreRowsOf players (count + 1) (rows ++ row ∷ [])
more_rows players count rows row inside rise is near are = record {
  few = omega (arith, length_push rows row, are.few);
  before = All-push (λ (r : Row). (j : ℕ) → count + 1 ≤ j → j < length players → r.0 < get_or players j 0) rows row
      (All-weaker (λ (r : Row). (j : ℕ) → count ≤ j → j < length players → r.0 < get_or players j 0) (λ (r : Row). (j : ℕ) → count + 1 ≤ j → j < length players → r.0 < get_or players j 0)
      (λ r all j low below. all j (omega arith) below) rows are.before)
      (λ j low below. subst (λ (n : ℕ). n < get_or players j 0) (sym is) (rise count j 0 (omega arith) below));
  differ = subst AllDiffer (sym (map_push (λ (r : Row). r.0) rows row))
      (all_pairs_push (λ a b. a ≢ b) (map (λ (r : Row). r.0) rows) row.0 are.differ (λ k d below. apart k d below));
  near = All-push (λ (r : Row). IsWithin 1000000 r.2) rows row are.near near;
}
  where
    apart : (k d : ℕ) → k < length (map (λ (r : Row). r.0) rows) → get_or (map (λ (r : Row). r.0) rows) k d ≢ row.0
    apart k d below same =
        let within : k < length rows = omega (arith, length-map rows (λ (r : Row). r.0), below) in
        let at : get_or (map (λ (r : Row). r.0) rows) k d ≡ (get_or rows k row).0 = get_or-map (λ (r : Row). r.0) rows k row d within in
        let less : (get_or rows k row).0 < get_or players count 0 = are.before k row within count (omega arith) inside in
        omega (arith, at, same, less, is)

kept_rows : (players : List ℕ) (count : ℕ) (rows : List Row) → AreRowsOf players count rows → AreRowsOf players (count + 1) rows
kept_rows players count rows are = record {
  few = omega (arith, are.few);
  before = All-weaker (λ (r : Row). (j : ℕ) → count ≤ j → j < length players → r.0 < get_or players j 0) (λ (r : Row). (j : ℕ) → count + 1 ≤ j → j < length players → r.0 < get_or players j 0)
      (λ r all j low below. all j (omega arith) below) rows are.before;
  differ = are.differ;
  near = are.near;
}

-- one player more, with a row or none
pub one_player : (players : List ℕ) (count : ℕ) (rows next : List Row) (row : Option Row) (player : ℕ) → count < length players → AllPairs (λ a b. a < b) players → player ≡ get_or players count 0
    → IfSome row (λ r. (r.0 ≡ player) × IsWithin 1000000 r.2) → next ≡ with_row rows row → AreRowsOf players count rows → AreRowsOf players (count + 1) next
one_player players count rows next None player inside rise is near more are = subst (AreRowsOf players (count + 1)) (sym more) (kept_rows players count rows are)
one_player players count rows next (Some row) player inside rise is near more are =
    subst (AreRowsOf players (count + 1)) (sym more) (more_rows players count rows row inside rise (near.0 ∙ is) near.1 are)
