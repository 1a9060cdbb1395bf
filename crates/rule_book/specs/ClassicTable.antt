-- The table of a classic league. A row before it is ranked is an entry, its total, and its counted transfers.
use Rattle.std.specs.Prelude.{ℕ, ℤ, Bool, ◌&&◌, ◌||◌, nat_lt, int_lt, List, map, IsPermutation}
use Rattle.std.specs.List.Sorted.{IsSortedByKey}
use Rattle.std.specs.Ordering.{int_eq}
use Rattle.rule_book.specs.Ranks.{rank_among, by_rank}
use Rattle.rule_book.specs.declared.tables.Ranked.{Ranked}

-- one row is strictly better than another: a greater total, or an equal total and fewer transfers
abbrev pub is_better : ℕ × ℤ × ℕ → ℕ × ℤ × ℕ → Bool
is_better a b = int_lt b.1 a.1 || (int_eq a.1 b.1 && nat_lt a.2 b.2)

-- a row with its rank among the rows
abbrev pub ranked : List (ℕ × ℤ × ℕ) → ℕ × ℤ × ℕ → Ranked
ranked rows row = record { rank = rank_among is_better rows row; entry = row.0; total = row.1; transfers = row.2 }

-- the table has each row with its rank, by rank, then entry
pub record IsClassicTable (rows : List (ℕ × ℤ × ℕ)) (table : List Ranked) : Type 0 where
  pub each_ranked : IsPermutation (map (ranked rows) rows) table
  pub in_order : IsSortedByKey (λ row. (row.rank, row.entry)) by_rank table
