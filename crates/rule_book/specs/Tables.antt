-- The tables of leagues, as values.
use Rattle.std.specs.Prelude.{◌≡◌, ◌↔◌, ℕ, ℤ, List, map}
use Rattle.rule_book.specs.Ranks.{AllDiffer}
use Rattle.rule_book.specs.ClassicTable.{IsClassicTable, ranked}
use Rattle.rule_book.specs.HeadToHead.{IsHeadTable, head_ranked}
use Rattle.rule_book.specs.RowsInOrder.{in_order}
use Rattle.rule_book.specs.declared.tables.HeadRanked.{HeadRanked}
use Rattle.rule_book.specs.declared.tables.HeadScore.{HeadScore}
use Rattle.rule_book.specs.declared.tables.Ranked.{Ranked}

-- the table of a classic league: its rows with their ranks, by rank, then entry
abbrev pub classic_table_of : List (ℕ × ℤ × ℕ) → List Ranked
classic_table_of rows = in_order (λ row. (row.rank, row.entry)) (map (ranked rows) rows)

-- that of a head-to-head league
abbrev pub head_table_of : List (ℕ × HeadScore) → List HeadRanked
head_table_of rows = in_order (λ row. (row.rank, row.entry)) (map (head_ranked rows) rows)

-- of rows whose entries differ, it is the only one that the rules allow
abbrev pub ClassicTableIsTheOne : Type 0
ClassicTableIsTheOne = (rows : List (ℕ × ℤ × ℕ)) (table : List Ranked) → AllDiffer (map (λ row. row.0) rows) → IsClassicTable rows table ↔ (table ≡ classic_table_of rows)

abbrev pub HeadTableIsTheOne : Type 0
HeadTableIsTheOne = (rows : List (ℕ × HeadScore)) (table : List HeadRanked) → AllDiffer (map (λ row. row.0) rows) → IsHeadTable rows table ↔ (table ≡ head_table_of rows)
