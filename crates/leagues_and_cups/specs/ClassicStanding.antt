-- By what the rows of a table are sorted and ranked.
use Rattle.std.specs.Prelude.{ℕ, ℤ, List}
use Rattle.std.specs.Ordering.{is_lt, ordering_then, nat_cmp, int_cmp}
use Rattle.std.specs.declared.cmp.Ordering.{Ordering}
use Rattle.rule_book.specs.Ranks.{rank_among}
use Rattle.rule_book.specs.declared.tables.Ranked.{Ranked}
use Rattle.leagues_and_cups.specs.declared.classic_table.Placed.{Placed}
use Rattle.leagues_and_cups.specs.declared.classic_table.Standing.{Standing}

-- a row as the table orders it
abbrev pub placed_of_row : ℕ × ℤ × ℕ → Placed
placed_of_row row = record { standing = record { total = record { 0 = row.1 }; transfers = row.2 }; entry = row.0 }

-- the greater total first, then the fewer transfers
abbrev pub by_standing : Standing → Standing → Ordering
by_standing a b = ordering_then (int_cmp b.total.0 a.total.0) (nat_cmp a.transfers b.transfers)

-- by standing, those of one standing by entry
abbrev pub by_place : Placed → Placed → Ordering
by_place a b = ordering_then (by_standing a.standing b.standing) (nat_cmp a.entry b.entry)

-- the rank of a row among the rows, where the lesser standing is the better one
abbrev pub rank_placed : List Placed → Placed → ℕ
rank_placed rows row = rank_among (λ a b. is_lt (by_standing a.standing b.standing)) rows row

-- a row with a rank
abbrev pub with_rank : Placed → ℕ → Ranked
with_rank row rank = record { rank = rank; entry = row.entry; total = row.standing.total.0; transfers = row.standing.transfers }

-- a row with its rank among the rows
abbrev pub ranked_placed : List Placed → Placed → Ranked
ranked_placed rows row = with_rank row (rank_placed rows row)
