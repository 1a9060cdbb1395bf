-- How many counted reads the team of the week makes at most: each player's gameweek once.
use Rattle.std.specs.Prelude.{ℕ, length}
use Rattle.season_book.specs.Book.{Facts}

abbrev pub dream_team_reads : Facts → ℕ
dream_team_reads facts = length facts.players
