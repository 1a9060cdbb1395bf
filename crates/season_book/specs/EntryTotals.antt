-- Who is in a gameweek, what an entry has through it, and its ranks among all who are in it.
use Rattle.std.specs.Prelude.{ℕ, ℤ, Bool, List, filter, int_lt, map}
use Rattle.rule_book.specs.ClassicTable.{is_better}
use Rattle.rule_book.specs.History.{Event}
use Rattle.rule_book.specs.HistoryTeam.{is_begun}
use Rattle.rule_book.specs.HistoryTransfers.{counted_through}
use Rattle.rule_book.specs.Ranks.{rank_among}
use Rattle.rule_book.specs.Totals.{total_from}
use Rattle.rule_book.specs.UpTo.{start_of}
use Rattle.season_book.specs.Book.{EntryFacts, Facts}
use Rattle.season_book.specs.EntryViews.{score_by}
use Rattle.season_book.specs.Windows.{numbered}

-- an entry is in a gameweek where it is registered and had begun by then
abbrev pub is_in : EntryFacts → ℕ → Bool
is_in entry g = is_begun entry.history g

-- the entries in a gameweek, each with its number
abbrev pub entries_in : List EntryFacts → ℕ → List (ℕ × EntryFacts)
entries_in entries g = filter (λ row. is_in row.1 g) (numbered entries)

-- the points of a history in a gameweek, before deductions
abbrev pub gross_by : Facts → List Event → ℕ → ℤ
gross_by facts h g = (score_by facts h g).gross

-- its points after deductions, from its first gameweek through this one
abbrev pub total_through : Facts → List Event → ℕ → ℤ
total_through facts h g = total_from (λ k. (score_by facts h k).net) 1 (start_of h) g

-- an entry's row of the table of all, through a gameweek: its number, its total and its transfers
abbrev pub row_through : Facts → ℕ → ℕ × EntryFacts → ℕ × ℤ × ℕ
row_through facts g row = (row.0, total_through facts row.1.history g, counted_through row.1.history g)

-- the rows of all who are in the gameweek
abbrev pub rows_through : Facts → List EntryFacts → ℕ → List (ℕ × ℤ × ℕ)
rows_through facts entries g = map (row_through facts g) (entries_in entries g)

-- an entry's rank among them through the gameweek, by the rule of a classic table
abbrev pub overall_rank : Facts → List EntryFacts → ℕ → ℕ × EntryFacts → ℕ
overall_rank facts entries g row = rank_among is_better (rows_through facts entries g) (row_through facts g row)

-- one entry has more points in the gameweek than another, before deductions
abbrev pub has_more_points : Facts → ℕ → ℕ × EntryFacts → ℕ × EntryFacts → Bool
has_more_points facts g other row = int_lt (gross_by facts row.1.history g) (gross_by facts other.1.history g)

-- an entry's rank among them by these points
abbrev pub event_rank : Facts → List EntryFacts → ℕ → ℕ × EntryFacts → ℕ
event_rank facts entries g row = rank_among (has_more_points facts g) (entries_in entries g) row
