-- The rows of a table are those of members.
use Rattle.std.proofs.Common.{◌≡◌, ◌<◌, ℕ, ℤ, List, All, Contains, length, map, get_or, sym, ap, subst, ◌∙◌}
use Rattle.std.proofs.lemmas.List.{get_or-map, length-map}
use Rattle.std.proofs.lemmas.List.Elements.{All-map}
use Rattle.std.proofs.lemmas.List.Sorted.{All-permutation, length_permutation}
use Rattle.rule_book.specs.ClassicTable.{ranked}
use Rattle.rule_book.specs.HeadToHead.{head_ranked}
use Rattle.rule_book.specs.Tables.{classic_table_of, head_table_of}
use Rattle.rule_book.specs.declared.tables.HeadRanked.{HeadRanked}
use Rattle.rule_book.specs.declared.tables.HeadScore.{HeadScore}
use Rattle.rule_book.specs.declared.tables.Ranked.{Ranked}
use Rattle.rule_book.proofs.OrderFacts.{in_order_moves}

-- each row is of one of these, where the rows are theirs
of_rows : {R : Type 0} (entry : R → ℕ) (rows : List R) (members : List ℕ) → map entry rows ≡ members → All (λ row. Contains members (entry row)) rows
of_rows entry rows members are k d within =
    let long : length rows ≡ length members = sym (length-map rows entry) ∙ ap length are in
    let e : ℕ = entry (get_or rows k d) in
    (k, subst (λ n. k < n) long within, ap (λ ms. get_or ms k e) (sym are) ∙ get_or-map entry rows k d e within)

module _ (members : List ℕ) where
  pub classic_members : (rows : List (ℕ × ℤ × ℕ)) → map (λ row. row.0) rows ≡ members → All (λ row. Contains members row.entry) (classic_table_of rows)
  classic_members rows are =
      All-permutation (λ (row : Ranked). Contains members row.entry) (map (ranked rows) rows) (classic_table_of rows) (in_order_moves (λ (row : Ranked). (row.rank, row.entry)) (map (ranked rows) rows))
      (All-map (λ (row : Ranked). Contains members row.entry) (ranked rows) rows (of_rows (λ (row : ℕ × ℤ × ℕ). row.0) rows members are))

  pub head_members : (rows : List (ℕ × HeadScore)) → map (λ row. row.0) rows ≡ members → All (λ row. Contains members row.entry) (head_table_of rows)
  head_members rows are =
      All-permutation (λ (row : HeadRanked). Contains members row.entry) (map (head_ranked rows) rows) (head_table_of rows) (in_order_moves (λ (row : HeadRanked). (row.rank, row.entry)) (map (head_ranked rows) rows))
      (All-map (λ (row : HeadRanked). Contains members row.entry) (head_ranked rows) rows (of_rows (λ (row : ℕ × HeadScore). row.0) rows members are))

-- a table has a row for each of the rows
pub classic_long : (rows : List (ℕ × ℤ × ℕ)) → length (classic_table_of rows) ≡ length rows
classic_long rows = length_permutation (map (ranked rows) rows) (classic_table_of rows) (in_order_moves (λ (row : Ranked). (row.rank, row.entry)) (map (ranked rows) rows)) ∙ length-map rows (ranked rows)
