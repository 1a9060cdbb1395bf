-- The tables of the definitions are the ones of the rules.
use Rattle.std.proofs.Common.{ℕ, ◌≡◌, refl, sym, subst, List, map, nat_eq}
use Rattle.std.specs.Prelude.{ℤ}
use Rattle.std.specs.Cmp.{unsigned_Decides}
use Rattle.std.specs.List.{IsDistinct}
use Rattle.std.proofs.lemmas.Map.Made.{IsDistinct-from_AllPairs}
use Rattle.std.proofs.lemmas.Simd.{map-map}
use Rattle.rule_book.specs.Ranks.{AllDiffer}
use Rattle.rule_book.specs.ClassicTable.{IsClassicTable, ranked}
use Rattle.rule_book.specs.HeadToHead.{IsHeadTable, head_ranked}
use Rattle.rule_book.specs.Tables.{ClassicTableIsTheOne, HeadTableIsTheOne, classic_table_of, head_table_of}
use Rattle.rule_book.specs.declared.tables.HeadRanked.{HeadRanked}
use Rattle.rule_book.specs.declared.tables.HeadScore.{HeadScore}
use Rattle.rule_book.specs.declared.tables.Ranked.{Ranked}
use Rattle.rule_book.proofs.OrderFacts.{in_order_moves, in_order_sorted, only_order}

-- the entries of rows are those of the rows before they are ranked
apart : {X Y : Type 0} (entry : X → ℕ) (with_rank : X → Y) (after : Y → ℕ) → (rows : List X) → map (λ x. after (with_rank x)) rows ≡ map entry rows → AllDiffer (map entry rows) → IsDistinct nat_eq (map after (map with_rank rows))
apart entry with_rank after rows e differ =
    subst (IsDistinct nat_eq) (sym (map-map after with_rank rows)) (subst (IsDistinct nat_eq) (sym e) (IsDistinct-from_AllPairs unsigned_Decides (map entry rows) differ))

classic_is : (rows : List (ℕ × ℤ × ℕ)) → IsClassicTable rows (classic_table_of rows)
classic_is rows = record { each_ranked = in_order_moves (λ (row : Ranked). (row.rank, row.entry)) (map (ranked rows) rows); in_order = in_order_sorted (λ (row : Ranked). (row.rank, row.entry)) (map (ranked rows) rows) }

pub classic_table_is_the_one : ClassicTableIsTheOne
classic_table_is_the_one rows table differ = (
  λ t. only_order (λ (row : Ranked). (row.rank, row.entry)) (map (ranked rows) rows) table (apart (λ row. row.0) (ranked rows) (λ row. row.entry) rows refl differ) t.each_ranked t.in_order,
  λ e. subst (IsClassicTable rows) (sym e) (classic_is rows),
)

head_is : (rows : List (ℕ × HeadScore)) → IsHeadTable rows (head_table_of rows)
head_is rows = record { each_ranked = in_order_moves (λ (row : HeadRanked). (row.rank, row.entry)) (map (head_ranked rows) rows); in_order = in_order_sorted (λ (row : HeadRanked). (row.rank, row.entry)) (map (head_ranked rows) rows) }

pub head_table_is_the_one : HeadTableIsTheOne
head_table_is_the_one rows table differ = (
  λ t. only_order (λ (row : HeadRanked). (row.rank, row.entry)) (map (head_ranked rows) rows) table (apart (λ row. row.0) (head_ranked rows) (λ row. row.entry) rows refl differ) t.each_ranked t.in_order,
  λ e. subst (IsHeadTable rows) (sym e) (head_is rows),
)
