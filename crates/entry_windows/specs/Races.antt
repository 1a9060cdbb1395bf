-- An entry's totals and ranks through each gameweek.
use Rattle.std.specs.Prelude.{◌≡◌, ◌<◌, ◌+◌, ℕ, List, count_by, pos, slice_index, slice_index_or}
use Rattle.season_book.specs.Book.{EntryFacts, Facts}
use Rattle.entry_windows.specs.declared.shapes.Course.{Course}
use Rattle.entry_windows.specs.declared.shapes.Race.{Race}
use Rattle.entry_windows.specs.Courses.{is_ahead}
use Rattle.season_book.specs.EntryTotals.{overall_rank, total_through}

-- at each place is one more than how many of these entries are ahead there
abbrev pub AreRanks : Facts → List EntryFacts → Course → ℕ → List ℕ → Type 0
AreRanks facts entries course through ranks =
    (place : ℕ) → place < through → slice_index ranks place ≡ count_by (λ entry. is_ahead facts entry.history course place) entries + 1

-- the total and the rank of an entry through each of the first gameweeks
pub record IsRace (facts : Facts) (entries : List EntryFacts) (row : ℕ × EntryFacts) (through : ℕ) (race : Race) : Type 0 where
  pub totals : (place : ℕ) → place < through → slice_index_or race.course.totals place (pos 0) ≡ total_through facts row.1.history (place + 1)
  pub ranks : (place : ℕ) → place < through → slice_index race.ranks place ≡ overall_rank facts entries (place + 1) row
