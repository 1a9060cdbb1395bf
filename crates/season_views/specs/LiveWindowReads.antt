-- How many counted reads a gameweek of all players makes at most: each player's gameweek once, and of each fixture that
-- stands in it the bonus and each line once.
use Rattle.std.specs.Prelude.{ℕ, ◌+◌, length, sum_by}
use Rattle.rule_book.specs.Calendar.{standing}
use Rattle.rule_book.specs.MatchFacts.{lines_of}
use Rattle.season_book.specs.Book.{Facts}

abbrev pub live_reads : Facts → ℕ → ℕ
live_reads facts g = length facts.players + sum_by (λ f. 1 + length (lines_of facts.matches f)) (standing facts.calendar g)
