-- An entry's totals and transfers through each gameweek, as they are kept while all entries are compared with it.
use Rattle.std.specs.Prelude.{◌≡◌, ◌<◌, ◌+◌, ℕ, ℤ, Bool, ◌&&◌, List, pos, slice_index, slice_index_or, if◌then◌else◌}
use Rattle.rule_book.specs.ClassicTable.{is_better}
use Rattle.rule_book.specs.History.{Event}
use Rattle.rule_book.specs.HistoryTeam.{is_begun}
use Rattle.rule_book.specs.HistoryTransfers.{counted_through}
use Rattle.season_book.specs.Book.{Facts}
use Rattle.entry_windows.specs.declared.shapes.Course.{Course}
use Rattle.season_book.specs.EntryTotals.{total_through}

-- the total and the transfers of a history through each of the first gameweeks stand at its place, from 0
pub record IsCourse (facts : Facts) (h : List Event) (through : ℕ) (course : Course) : Type 0 where
  pub totals : (place : ℕ) → place < through → slice_index_or course.totals place (pos 0) ≡ total_through facts h (place + 1)
  pub transfers : (place : ℕ) → place < through → slice_index course.transfers place ≡ counted_through h (place + 1)

-- the row of a course at a place, whose number does not tell who is better
abbrev pub row_at : Course → ℕ → ℕ × ℤ × ℕ
row_at course place = (0, slice_index_or course.totals place (pos 0), slice_index course.transfers place)

-- a history has begun in a gameweek, and is better through it than the entry of this course
abbrev pub is_ahead : Facts → List Event → Course → ℕ → Bool
is_ahead facts h course place =
    is_begun h (place + 1) && is_better (0, total_through facts h (place + 1), counted_through h (place + 1)) (row_at course place)

-- 1 for one that is ahead
abbrev pub ahead_by : Facts → List Event → Course → ℕ → ℕ
ahead_by facts h course place = if is_ahead facts h course place then 1 else 0
