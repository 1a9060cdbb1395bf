-- How many counted reads the windows of an entry's gameweeks make at most: each gameweek of each entry through the last
-- one of which they speak by its cell and by its row, and for each gameweek that they show the fifteen and a few.
use Rattle.std.specs.Prelude.{ℕ, ◌+◌, ◌*◌, List, length}
use Rattle.season_book.specs.Book.{EntryFacts, Facts}

abbrev pub picks_reads : List EntryFacts → ℕ → ℕ
picks_reads entries g = (length entries + 1) * (2 * g) + 20

abbrev pub history_reads : Facts → List EntryFacts → ℕ
history_reads facts entries = (length entries + 21) * (2 * facts.calendar.locked) + 8
