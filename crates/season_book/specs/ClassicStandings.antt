-- The standings of a classic league, as a window shows them.
use Rattle.std.specs.Prelude.{ℕ, ℤ, pos, ◌&&◌, List, [], Option, Some, None, codes, if◌then◌else◌, nat_le}
use Rattle.std.specs.Option.{option_and_then}
use Rattle.serde_json.specs.Data.{Data, member, no_members, object, string}
use Rattle.json_members.specs.Members.{count, integer}
use Rattle.rule_book.specs.declared.tables.Ranked.{Ranked}
use Rattle.rule_book.specs.Entries.{entry_in}
use Rattle.rule_book.specs.HistoryTeam.{is_begun}
use Rattle.rule_book.specs.LeagueCalls.{is_head}
use Rattle.rule_book.specs.Leagues.{LeagueFacts}
use Rattle.rule_book.specs.Tables.{classic_table_of}
use Rattle.season_book.specs.Book.{EntryFacts, Facts}
use Rattle.season_book.specs.EntryViews.{score_by}
use Rattle.season_book.specs.LeagueViews.{history_of, name_of}
use Rattle.season_book.specs.Windows.{listed, numbered}
use Rattle.season_book.specs.LeaguePages.{standings_told}
use Rattle.season_book.specs.LeagueTables.{classic_last_rank, classic_rows_through}

-- a row by the entry's name, its points of the last gameweek and its last rank, at a place from 1
abbrev pub classic_row_told : List ℕ → ℤ → ℕ → ℕ × Ranked → Data
classic_row_told name points last row = object
    (member (codes "entry") (count row.1.entry)
    (member (codes "entry_name") (string name)
    (member (codes "event_total") (integer points)
    (member (codes "id") (count row.1.entry)
    (member (codes "last_rank") (count last)
    (member (codes "player_name") (string [])
    (member (codes "rank") (count row.1.rank)
    (member (codes "rank_sort") (count row.0)
    (member (codes "total") (integer row.1.total)
    no_members)))))))))

module _ (facts : Facts) (entries : List EntryFacts) where
  -- what an entry scored in the last locked gameweek, before deductions; 0 where it is not in it
  abbrev pub last_points : ℕ → ℤ
  last_points e =
      let g = facts.calendar.locked in
      if nat_le 1 g && is_begun (history_of entries e) g then (score_by facts (history_of entries e) g).gross else pos 0

  -- a row of a league's table
  abbrev pub classic_standing : LeagueFacts → ℕ × Ranked → Data
  classic_standing league row =
      classic_row_told (name_of entries row.1.entry) (last_points row.1.entry) (classic_last_rank facts entries league row.1.entry) row

  abbrev pub classic_standings : ℕ → LeagueFacts → Data
  classic_standings l league =
      standings_told l league (listed (classic_standing league) (numbered (classic_table_of (classic_rows_through facts entries league facts.calendar.locked))))

  -- there are standings where there is such a classic league
  abbrev pub classic_standings_window : List LeagueFacts → ℕ → Option Data
  classic_standings_window leagues l =
      option_and_then (λ league. if is_head league.kind then None else Some (classic_standings l league)) (entry_in leagues l)
