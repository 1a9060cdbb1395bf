-- What views show of leagues and cups, computed anew from histories and facts.
use Rattle.std.specs.Prelude.{ℕ, ℤ, pos, List, [], Option, map, if◌then◌else◌}
use Rattle.std.specs.Option.{option_map_or}
use Rattle.rule_book.specs.declared.cup.Bracket.{Bracket}
use Rattle.rule_book.specs.declared.cup.Side.{Side}
use Rattle.rule_book.specs.declared.league.LeagueKind.{LeagueKind}
use Rattle.rule_book.specs.declared.league.LeagueKind.TheVariants as kind
use Rattle.rule_book.specs.declared.tables.HeadRanked.{HeadRanked}
use Rattle.rule_book.specs.declared.tables.Ranked.{Ranked}
use Rattle.rule_book.specs.declared.team_score.TeamScore.{TeamScore}
use Rattle.rule_book.specs.CupRounds.{rounds_shown}
use Rattle.rule_book.specs.Entries.{entry_in}
use Rattle.rule_book.specs.History.{Event}
use Rattle.rule_book.specs.HistoryTeam.{is_begun}
use Rattle.rule_book.specs.HistoryTransfers.{counted_through}
use Rattle.rule_book.specs.LeagueRows.{classic_rows, head_rows}
use Rattle.rule_book.specs.Leagues.{LeagueFacts}
use Rattle.rule_book.specs.Tables.{classic_table_of, head_table_of}
use Rattle.rule_book.specs.UpTo.{start_of}
use Rattle.season_book.specs.Book.{EntryFacts, Facts}
use Rattle.season_book.specs.EntryViews.{score_by}
use Rattle.season_book.specs.declared.shown.Shown.{Shown}
use Rattle.season_book.specs.declared.shown.Shown.TheVariants as shown
use Rattle.season_book.specs.declared.shown.ShownClassic.{ShownClassic}
use Rattle.season_book.specs.declared.shown.ShownCup.{ShownCup}
use Rattle.season_book.specs.declared.shown.ShownHead.{ShownHead}
use Rattle.season_book.specs.declared.shown.ShownHeadRanked.{ShownHeadRanked}
use Rattle.season_book.specs.declared.shown.ShownRanked.{ShownRanked}

-- What an entry has in a gameweek.

-- what a score gives to a tie or a match
abbrev pub side_of : TeamScore → Side
side_of score = record { net = score.net; goals = score.goals; conceded = score.conceded }

-- nothing
abbrev pub no_side : Side
no_side = record { net = pos 0; goals = 0; conceded = 0 }

-- what a history has in a gameweek; nothing where it has not begun
abbrev pub side_by : Facts → List Event → ℕ → Side
side_by facts h g = if is_begun h g then side_of (score_by facts h g) else no_side

-- the history and the name of an entry; nothing of one that was not issued
abbrev pub history_of : List EntryFacts → ℕ → List Event
history_of entries e = option_map_or (λ entry. entry.history) (entry_in entries e) []

abbrev pub name_of : List EntryFacts → ℕ → List ℕ
name_of entries e = option_map_or (λ entry. entry.name) (entry_in entries e) []

-- what an entry has in a gameweek, and its points after deductions
abbrev pub side_in : Facts → List EntryFacts → ℕ → ℕ → Side
side_in facts entries e g = side_by facts (history_of entries e) g

abbrev pub net_in : Facts → List EntryFacts → ℕ → ℕ → ℤ
net_in facts entries e g = (side_in facts entries e g).net

-- its first gameweek, if it is registered, and the transfers that a table counts
abbrev pub first_of : List EntryFacts → ℕ → Option ℕ
first_of entries e = start_of (history_of entries e)

abbrev pub counted_of : Facts → List EntryFacts → ℕ → ℕ
counted_of facts entries e = counted_through (history_of entries e) facts.calendar.locked

-- Leagues.

-- a classic league with its table
abbrev pub ranked_shown : List EntryFacts → Ranked → ShownRanked
ranked_shown entries row = record { row = row; name = name_of entries row.entry }

abbrev pub classic_rows_by : Facts → List EntryFacts → LeagueFacts → List (ℕ × ℤ × ℕ)
classic_rows_by facts entries league =
    classic_rows (net_in facts entries) (first_of entries) (counted_of facts entries) facts.calendar.locked league

abbrev pub classic_shown : Facts → List EntryFacts → LeagueFacts → ShownClassic
classic_shown facts entries league = record {
  name = league.name;
  start = league.start;
  rows = map (ranked_shown entries) (classic_table_of (classic_rows_by facts entries league));
}

-- a head-to-head league with its table
abbrev pub head_ranked_shown : List EntryFacts → HeadRanked → ShownHeadRanked
head_ranked_shown entries row = record { row = row; name = name_of entries row.entry }

abbrev pub head_shown : Facts → List EntryFacts → LeagueFacts → ShownHead
head_shown facts entries league = record {
  name = league.name;
  start = league.start;
  rows = map (head_ranked_shown entries) (head_table_of (head_rows (net_in facts entries) facts.calendar.locked league));
}

-- a league, by its kind
abbrev pub league_shown_as : LeagueKind → Facts → List EntryFacts → LeagueFacts → Shown
league_shown_as kind.Classic facts entries league = shown.Classic (classic_shown facts entries league)
league_shown_as kind.Head facts entries league = shown.Head (head_shown facts entries league)

abbrev pub league_shown : Facts → List EntryFacts → LeagueFacts → Shown
league_shown facts entries league = league_shown_as league.kind facts entries league

-- Cups.

-- a cup with the winners of its rounds
abbrev pub cup_shown : Facts → List EntryFacts → Bracket → ShownCup
cup_shown facts entries b = record {
  start = b.start;
  rounds = rounds_shown b (side_in facts entries) facts.calendar.locked;
}
