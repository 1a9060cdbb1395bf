-- How many counted reads standings make at most.
use Rattle.std.specs.Prelude.{ℕ, ◌*◌, List, length}
use Rattle.std.specs.Option.{option_map_or}
use Rattle.rule_book.specs.Entries.{entry_in}
use Rattle.rule_book.specs.Leagues.{LeagueFacts}

-- how many members the league of a number has
abbrev pub members_of : List LeagueFacts → ℕ → ℕ
members_of leagues l = option_map_or (λ league. length league.members) (entry_in leagues l) 0

-- of each member of a classic league its row now and the one of before, and its last gameweek in either
abbrev pub classic_standings_reads : List LeagueFacts → ℕ → ℕ
classic_standings_reads leagues l = 5 * members_of leagues l

-- of each member of a head-to-head league its row, and its last match, of which the two sides are read
abbrev pub head_standings_reads : List LeagueFacts → ℕ → ℕ
head_standings_reads leagues l = 3 * members_of leagues l
