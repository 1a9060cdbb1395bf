-- How many counted reads the window makes at most: each fixture that has facts, each line, each player's gameweek, each
-- entry's team of the gameweek that was locked last, and each entry's locked gameweeks, once.
use Rattle.std.specs.Prelude.{ℕ, ◌+◌, length, sum_by, if◌then◌else◌}
use Rattle.rule_book.specs.declared.season.Fixture.{Fixture}
use Rattle.rule_book.specs.Calendar.{is_locked}
use Rattle.rule_book.specs.MatchFacts.{lines_of}
use Rattle.season_book.specs.Book.{Facts}
use Rattle.season_book.specs.Windows.{numbered}

-- the lines of a fixture, each of them once, and its bonus
abbrev pub fixture_reads : Facts → Fixture → ℕ
fixture_reads facts fixture = 1 + length (lines_of facts.matches fixture.id)

-- those of all fixtures
abbrev pub lines_reads : Facts → ℕ
lines_reads facts = sum_by (fixture_reads facts) facts.calendar.fixtures

-- the points of so many entries in each locked gameweek
abbrev pub events_reads : Facts → ℕ → ℕ
events_reads facts entries = sum_by (λ row. if is_locked facts.calendar row.0 then entries else 0) (numbered facts.calendar.deadlines)

-- all of a season with so many entries
abbrev pub bootstrap_reads : Facts → ℕ → ℕ
bootstrap_reads facts entries = lines_reads facts + (length facts.players + (entries + events_reads facts entries))
