-- An entry, as a window shows it: its points, its ranks and the leagues that it is in.
use Rattle.std.specs.Prelude.{ℕ, ◌+◌, ◌==◌, ◌&&◌, Bool, List, [], Option, Some, None, codes, filter, if◌then◌else◌, map, nat_le, not}
use Rattle.std.specs.List.{sum}
use Rattle.std.specs.Option.{option_and_then, option_map}
use Rattle.serde_json.specs.Data.{Data, boolean, member, no_members, object, string}
use Rattle.json_members.specs.Members.{count, count_or_null, integer_or_null}
use Rattle.rule_book.specs.Entries.{entry_in}
use Rattle.rule_book.specs.History.{Event}
use Rattle.rule_book.specs.HistoryTransfers.{swaps_in}
use Rattle.rule_book.specs.LeagueCalls.{is_head, is_member}
use Rattle.rule_book.specs.Leagues.{LeagueFacts}
use Rattle.rule_book.specs.Totals.{gameweeks}
use Rattle.rule_book.specs.UpTo.{start_of}
use Rattle.season_book.specs.Book.{EntryFacts, Facts}
use Rattle.season_book.specs.EntryViews.{team_by}
use Rattle.season_book.specs.Windows.{listed, numbered, scoring_of}
use Rattle.season_book.specs.EntryTotals.{event_rank, gross_by, is_in, overall_rank, total_through}
use Rattle.season_book.specs.LeaguePages.{bound_told}
use Rattle.season_book.specs.LeagueTables.{classic_last_rank, classic_rank, head_last_rank, head_rank}

-- a league of an entry by its number, with the entry's ranks in it: the last one, and that of now
abbrev pub entry_league_told : ℕ → ℕ → ℕ → ℕ × LeagueFacts → Data
entry_league_told e last rank row = object
    (member (codes "admin_entry") (count row.1.creator)
    (member (codes "entry_can_admin") (boolean (row.1.creator == e))
    (member (codes "entry_last_rank") (count last)
    (member (codes "entry_rank") (count rank)
    (member (codes "id") (count row.0)
    (member (codes "league_type") (string (codes "x"))
    (member (codes "max_entries") (count_or_null (bound_told row.1.kind))
    (member (codes "name") (string row.1.name)
    (member (codes "scoring") (string (scoring_of row.1.kind))
    (member (codes "start_event") (count row.1.start)
    no_members))))))))))

-- the leagues of a kind of which an entry is a member
abbrev pub classic_leagues_of : List LeagueFacts → ℕ → List (ℕ × LeagueFacts)
classic_leagues_of leagues e = filter (λ row. not (is_head row.1.kind) && is_member row.1 e) (numbered leagues)

abbrev pub head_leagues_of : List LeagueFacts → ℕ → List (ℕ × LeagueFacts)
head_leagues_of leagues e = filter (λ row. is_head row.1.kind && is_member row.1 e) (numbered leagues)

-- all transfers of a history in the gameweeks after its first one, through the last
abbrev pub transfers_after : List Event → ℕ → ℕ → ℕ
transfers_after h first last = sum (map (swaps_in h) (gameweeks (first + 1) last))

module _ (facts : Facts) (entries : List EntryFacts) where
  abbrev pub classic_league_told : ℕ → ℕ × LeagueFacts → Data
  classic_league_told e row =
      entry_league_told e (classic_last_rank facts entries row.1 e) (classic_rank facts entries row.1 facts.calendar.locked e) row

  abbrev pub head_league_told : ℕ → ℕ × LeagueFacts → Data
  head_league_told e row =
      entry_league_told e (head_last_rank facts entries row.1 e) (head_rank facts entries row.1 facts.calendar.locked e) row

  abbrev pub entry_leagues_told : List LeagueFacts → ℕ → Data
  entry_leagues_told leagues e = object
      (member (codes "classic") (listed (classic_league_told e) (classic_leagues_of leagues e))
      (member (codes "h2h") (listed (head_league_told e) (head_leagues_of leagues e))
      no_members))

  -- whether an entry is in the last locked gameweek, and what is told where it is
  abbrev pub is_in_last : EntryFacts → Bool
  is_in_last entry = nat_le 1 facts.calendar.locked && is_in entry facts.calendar.locked

  abbrev pub if_in_last : {X : Type 0} → EntryFacts → X → Option X
  if_in_last entry x = if is_in_last entry then Some x else None

  -- an entry by its number, which is registered since its first gameweek
  abbrev pub entry_told : List LeagueFacts → ℕ × EntryFacts → ℕ → Data
  entry_told leagues row first =
      let last = facts.calendar.locked in
      let history = row.1.history in
      object
      (member (codes "current_event") (count_or_null (if nat_le 1 last then Some last else None))
      (member (codes "id") (count row.0)
      (member (codes "last_deadline_bank") (count_or_null (if_in_last row.1 (team_by facts history last).bank))
      (member (codes "last_deadline_total_transfers") (count (transfers_after history first last))
      (member (codes "leagues") (entry_leagues_told leagues row.0)
      (member (codes "name") (string row.1.name)
      (member (codes "player_first_name") (string [])
      (member (codes "player_last_name") (string [])
      (member (codes "started_event") (count first)
      (member (codes "summary_event_points") (integer_or_null (if_in_last row.1 (gross_by facts history last)))
      (member (codes "summary_event_rank") (count_or_null (if_in_last row.1 (event_rank facts entries last row)))
      (member (codes "summary_overall_points") (integer_or_null (if_in_last row.1 (total_through facts history last)))
      (member (codes "summary_overall_rank") (count_or_null (if_in_last row.1 (overall_rank facts entries last row)))
      no_members)))))))))))))

  -- it is shown where it is registered
  abbrev pub entry_window : List LeagueFacts → ℕ → Option Data
  entry_window leagues e =
      option_and_then (λ entry. option_map (entry_told leagues (e, entry)) (start_of entry.history)) (entry_in entries e)
