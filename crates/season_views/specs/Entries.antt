-- What is shown of an entry by what its rows tell, and what histories and entries the rows stand for.
use Rattle.std.specs.Prelude.{ℕ, ℤ, List, Option, map}
use Rattle.rule_book.specs.declared.player.Player.{Player}
use Rattle.rule_book.specs.declared.team.Team.{Team}
use Rattle.rule_book.specs.declared.team_score.TeamScore.{TeamScore}
use Rattle.rule_book.specs.Calendar.{next_gameweek}
use Rattle.rule_book.specs.EntryScores.{score_in}
use Rattle.rule_book.specs.History.{Event}
use Rattle.rule_book.specs.PlayerFigures.{position_in}
use Rattle.rule_book.specs.Totals.{total_from}
use Rattle.rule_book.specs.UpTo.{start_of}
use Rattle.season_ledger.specs.Stands.{StandsFor}
use Rattle.manager_book.specs.Managers.{Managers, season_of}
use Rattle.season_book.specs.Book.{EntryFacts, Facts}
use Rattle.season_book.specs.EntryViews.{pick_shown, player_in_slot}
use Rattle.season_book.specs.LeagueViews.{side_by}
use Rattle.season_book.specs.declared.shown.ShownMe.{ShownMe}
use Rattle.season_entries.specs.Entries.{AreEntries}

-- this holds of each history that an entry's rows stand for, where its players play as they do in the season
abbrev pub OfEachHistory : Facts → Managers → ℕ → (List Event → Type 0) → Type 0
OfEachHistory facts managers e Holds = (h : List Event) → StandsFor (position_in facts.players) (season_of managers e) h → Holds h

-- this holds of the entries of each book that the managers stand for
abbrev pub OfEachBook : Facts → Managers → (List EntryFacts → Type 0) → Type 0
OfEachBook facts managers Holds = (entries : List EntryFacts) → AreEntries facts.players managers.managers entries → Holds entries

-- and wherever their players may play
abbrev pub OfEachNames : Managers → (List EntryFacts → Type 0) → Type 0
OfEachNames managers Holds = (players : List Player) (entries : List EntryFacts) → AreEntries players managers.managers entries → Holds entries

-- the points after deductions of a history in a gameweek; 0 where it has not begun
abbrev pub net_by : Facts → List Event → ℕ → ℤ
net_by facts h g = (side_by facts h g).net

-- and over the locked gameweeks, from this one or from its first on
abbrev pub total_since : Facts → List Event → ℕ → ℤ
total_since facts h from = total_from (net_by facts h) from (start_of h) facts.calendar.locked

-- the score of a team in a gameweek of a season in which its transfers cost so much
abbrev pub score_with : Facts → Team → ℕ → ℕ → TeamScore
score_with facts team cost g = score_in facts.profile facts.calendar facts.players facts.matches team cost g

-- what a manager sees of his entry, with this team, free transfers, cost and total
abbrev pub me_with : Facts → ℕ → ℕ → Team → Option ℕ → ℕ → ℤ → ShownMe
me_with facts e last team free cost total = record {
  entry = e;
  last = last;
  gameweek = next_gameweek facts.calendar;
  players = map (pick_shown facts.players) team.picks;
  captain = player_in_slot team.picks team.captain;
  vice = player_in_slot team.picks team.vice;
  bank = team.bank;
  chip = team.chip;
  free = free;
  cost = cost;
  total = total;
}
