-- Who is in leagues, and the rows of classic ones by what each entry has over the locked gameweeks.
use Rattle.std.specs.Prelude.{◌≤◌, ℕ, ℤ, List, All, length}
use Rattle.manager_book.specs.Managers.{Managers}
use Rattle.season_book.specs.Book.{EntryFacts, Facts}
use Rattle.season_book.specs.LeagueViews.{counted_of, history_of}
use Rattle.season_views.specs.Entries.{total_since}

-- each of these entries was issued
abbrev pub AreIssued : Managers → List ℕ → Type 0
AreIssued managers members = All (λ e. e ≤ length managers.managers) members

-- an entry's row of a classic league that starts in a gameweek
abbrev pub classic_row_since : Facts → List EntryFacts → ℕ → ℕ → ℕ × ℤ × ℕ
classic_row_since facts entries start e = (e, total_since facts (history_of entries e) start, counted_of facts entries e)
