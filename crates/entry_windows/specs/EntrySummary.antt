-- What an entry has of the last locked gameweek.
use Rattle.std.specs.Prelude.{ℕ, List, Option}
use Rattle.season_book.specs.Book.{EntryFacts, Facts}
use Rattle.season_book.specs.EntryViews.{team_by}
use Rattle.season_book.specs.EntryTotals.{event_rank, gross_by, overall_rank, total_through}
use Rattle.entry_windows.specs.declared.summary.Summary.{Summary}
use Rattle.season_book.specs.EntryWindow.{if_in_last}

-- of a gameweek in which it is
abbrev pub summary_of : Facts → List EntryFacts → ℕ × EntryFacts → ℕ → Summary
summary_of facts entries row g = record {
  bank = (team_by facts row.1.history g).bank;
  points = gross_by facts row.1.history g;
  rank = event_rank facts entries g row;
  total = total_through facts row.1.history g;
  overall = overall_rank facts entries g row;
}

-- of the last one, if the entry is in it
abbrev pub summary_if_in : Facts → List EntryFacts → ℕ × EntryFacts → Option Summary
summary_if_in facts entries row = if_in_last facts entries row.1 (summary_of facts entries row facts.calendar.locked)
