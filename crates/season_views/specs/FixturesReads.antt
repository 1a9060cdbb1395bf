-- How many counted reads the window on fixtures makes at most: each line of each fixture once, and of each fixture its bonus.
use Rattle.std.specs.Prelude.{ℕ, ◌+◌, length, sum_by}
use Rattle.rule_book.specs.MatchFacts.{lines_of}
use Rattle.season_book.specs.Book.{Facts}

-- the lines of a fixture, and its bonus
abbrev pub match_reads : Facts → ℕ → ℕ
match_reads facts f = length (lines_of facts.matches f) + 1

abbrev pub fixtures_reads : Facts → ℕ
fixtures_reads facts = sum_by (λ fixture. match_reads facts fixture.id) facts.calendar.fixtures
