-- A table that is made of the sorted rows is one of the rows given.
use Rattle.std.proofs.Common.{ℕ, ℤ, ◌≡◌, ◌∙◌, refl, ap, subst, List, Bool, true, false, cond, map, ◌&&◌, ◌||◌, ◌==◌, IsPermutation, IsSorted}
use Rattle.std.specs.Prelude.{nat_lt, int_lt}
use Rattle.std.specs.Ordering.{is_lt, is_eq, ordering_then}
use Rattle.std.specs.declared.cmp.Ordering.TheVariants.{Less, Equal, Greater}
use Rattle.std.proofs.lemmas.List.Sorted.{IsPermutation-map}
use Rattle.std.proofs.lemmas.Simd.{map-map}
use Rattle.rule_book.specs.ClassicTable.{IsClassicTable, is_better, ranked}
use Rattle.rule_book.specs.declared.tables.Ranked.{Ranked}
use Rattle.rule_book.proofs.RankLemmas.{rank_among-IsPermutation}
use Rattle.rule_book.proofs.TableLemmas.{rank_among-map}
use Rattle.leagues_and_cups.specs.ClassicStanding.{placed_of_row, by_standing, by_place, with_rank, ranked_placed}
use Rattle.leagues_and_cups.specs.declared.classic_table.Placed.{Placed}
use Rattle.leagues_and_cups.proofs.RunningRanks.{ranked_in_order}

by_tests : (more less fewer same : Bool) → is_lt (ordering_then (cond more Less (cond less Greater Equal)) (cond fewer Less (cond same Equal Greater))) ≡ (more || (is_eq (cond less Less (cond more Greater Equal)) && fewer))
by_tests true less fewer same = refl
by_tests false true fewer same = refl
by_tests false false true same = refl
by_tests false false false true = refl
by_tests false false false false = refl

-- a standing comes first where its row is strictly better
less_is_better : (a b : ℕ × ℤ × ℕ) → is_lt (by_standing (placed_of_row a).standing (placed_of_row b).standing) ≡ is_better a b
less_is_better a b = by_tests (int_lt b.1 a.1) (int_lt a.1 b.1) (nat_lt a.2 b.2) (a.2 == b.2)

-- a row has the same rank among the rows given and among the sorted ones
ranked_alike : (rows : List (ℕ × ℤ × ℕ)) (placed : List Placed) → IsPermutation (map placed_of_row rows) placed → (row : ℕ × ℤ × ℕ) → ranked_placed placed (placed_of_row row) ≡ ranked rows row
ranked_alike rows placed same row =
    let better = λ (a : Placed) (b : Placed). is_lt (by_standing a.standing b.standing) in
    ap (with_rank (placed_of_row row)) (rank_among-IsPermutation better (map placed_of_row rows) placed (placed_of_row row) same ∙ rank_among-map placed_of_row better is_better less_is_better rows row)

pub is_table : (rows : List (ℕ × ℤ × ℕ)) (placed : List Placed) → IsPermutation (map placed_of_row rows) placed → IsSorted by_place placed → IsClassicTable rows (map (ranked_placed placed) placed)
is_table rows placed same sorted =
    let moved = IsPermutation-map (ranked_placed placed) (map placed_of_row rows) placed same in
    let each : map (ranked_placed placed) (map placed_of_row rows) ≡ map (ranked rows) rows = map-map (ranked_placed placed) placed_of_row rows ∙ (λ t. map (λ row. ranked_alike rows placed same row t) rows) in
    record {
      each_ranked = subst (λ (l : List Ranked). IsPermutation l (map (ranked_placed placed) placed)) each moved;
      in_order = ranked_in_order placed sorted;
    }
