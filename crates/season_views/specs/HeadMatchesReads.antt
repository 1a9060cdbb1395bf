-- How many counted reads the window of a head-to-head league's matches makes at most.
use Rattle.std.specs.Prelude.{ℕ, List, count_by, length}
use Rattle.std.specs.Option.{option_map_or}
use Rattle.rule_book.specs.Calendar.{is_locked}
use Rattle.rule_book.specs.Entries.{entry_in}
use Rattle.rule_book.specs.Leagues.{LeagueFacts}
use Rattle.season_book.specs.Book.{Facts}
use Rattle.season_book.specs.HeadMatches.{matches_to}

-- each match of a locked gameweek
abbrev pub head_matches_reads : Facts → List LeagueFacts → ℕ → ℕ
head_matches_reads facts leagues l =
    option_map_or (λ league. count_by (λ row. is_locked facts.calendar row.0) (matches_to league (length facts.calendar.deadlines))) (entry_in leagues l) 0
