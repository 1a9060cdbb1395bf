-- The standings of a head-to-head league, as a window shows them.
use Rattle.std.specs.Prelude.{ℕ, ◌+◌, List, [], Option, Some, None, codes, if◌then◌else◌}
use Rattle.std.specs.Option.{option_and_then}
use Rattle.serde_json.specs.Data.{Data, member, no_members, object, string}
use Rattle.json_members.specs.Members.{count, integer}
use Rattle.rule_book.specs.declared.tables.HeadRanked.{HeadRanked}
use Rattle.rule_book.specs.Entries.{entry_in}
use Rattle.rule_book.specs.LeagueCalls.{is_head}
use Rattle.rule_book.specs.Leagues.{LeagueFacts}
use Rattle.rule_book.specs.Tables.{head_table_of}
use Rattle.season_book.specs.Book.{EntryFacts, Facts}
use Rattle.season_book.specs.LeagueViews.{name_of}
use Rattle.season_book.specs.Windows.{listed, numbered}
use Rattle.season_book.specs.LeaguePages.{standings_told}
use Rattle.season_book.specs.LeagueTables.{head_last_rank, head_rows_through}

-- a row of the league of a number, by the entry's name and its last rank, at a place from 1
abbrev pub head_row_told : ℕ → List ℕ → ℕ → ℕ × HeadRanked → Data
head_row_told l name last row = object
    (member (codes "division") (count l)
    (member (codes "entry") (count row.1.entry)
    (member (codes "entry_name") (string name)
    (member (codes "id") (count row.1.entry)
    (member (codes "last_rank") (count last)
    (member (codes "matches_drawn") (count row.1.score.drawn)
    (member (codes "matches_lost") (count row.1.score.lost)
    (member (codes "matches_played") (count (row.1.score.won + row.1.score.drawn + row.1.score.lost))
    (member (codes "matches_won") (count row.1.score.won)
    (member (codes "player_name") (string [])
    (member (codes "points_for") (integer row.1.score.scored)
    (member (codes "rank") (count row.1.rank)
    (member (codes "rank_sort") (count row.0)
    (member (codes "total") (count row.1.score.points)
    no_members))))))))))))))

module _ (facts : Facts) (entries : List EntryFacts) where
  -- a row of a league's table
  abbrev pub head_standing : ℕ → LeagueFacts → ℕ × HeadRanked → Data
  head_standing l league row = head_row_told l (name_of entries row.1.entry) (head_last_rank facts entries league row.1.entry) row

  abbrev pub head_standings : ℕ → LeagueFacts → Data
  head_standings l league =
      standings_told l league (listed (head_standing l league) (numbered (head_table_of (head_rows_through facts entries league facts.calendar.locked))))

  -- there are standings where there is such a head-to-head league
  abbrev pub head_standings_window : List LeagueFacts → ℕ → Option Data
  head_standings_window leagues l =
      option_and_then (λ league. if is_head league.kind then Some (head_standings l league) else None) (entry_in leagues l)
