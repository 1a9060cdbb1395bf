-- The entries of a table are those of its rows.
use Rattle.std.proofs.Common.{◌≤◌, ℕ, ℤ, List, All, map, arith, subst}
use Rattle.std.proofs.lemmas.List.{get_or-map, length-map}
use Rattle.std.proofs.lemmas.List.Elements.{All-map}
use Rattle.std.proofs.lemmas.List.Sorted.{All-permutation}
use Rattle.rule_book.specs.ClassicTable.{IsClassicTable, ranked}
use Rattle.rule_book.specs.HeadToHead.{IsHeadTable, head_ranked}
use Rattle.rule_book.specs.declared.tables.HeadRanked.{HeadRanked}
use Rattle.rule_book.specs.declared.tables.HeadScore.{HeadScore}
use Rattle.rule_book.specs.declared.tables.Ranked.{Ranked}

-- of rows whose numbers are no greater than n, so is each
of_each : {X : Type 0} (number : X → ℕ) (n : ℕ) (rows : List X) → All (λ e. e ≤ n) (map number rows) → All (λ row. number row ≤ n) rows
of_each number n rows few k d within =
    subst (λ e. e ≤ n) (get_or-map number rows k d 0 within) (few k 0 (let long = length-map rows number in omega (arith, within, long)))

pub classic_entries : (rows : List (ℕ × ℤ × ℕ)) (table : List Ranked) (n : ℕ) → IsClassicTable rows table → All (λ e. e ≤ n) (map (λ row. row.0) rows) → All (λ row. row.entry ≤ n) table
classic_entries rows table n is few =
    All-permutation (λ (row : Ranked). row.entry ≤ n) (map (ranked rows) rows) table is.each_ranked
    (All-map (λ (row : Ranked). row.entry ≤ n) (ranked rows) rows (of_each (λ (row : ℕ × ℤ × ℕ). row.0) n rows few))

pub head_entries : (rows : List (ℕ × HeadScore)) (table : List HeadRanked) (n : ℕ) → IsHeadTable rows table → All (λ e. e ≤ n) (map (λ row. row.0) rows) → All (λ row. row.entry ≤ n) table
head_entries rows table n is few =
    All-permutation (λ (row : HeadRanked). row.entry ≤ n) (map (head_ranked rows) rows) table is.each_ranked
    (All-map (λ (row : HeadRanked). row.entry ≤ n) (head_ranked rows) rows (of_each (λ (row : ℕ × HeadScore). row.0) n rows few))
