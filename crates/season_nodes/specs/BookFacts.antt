-- What the books that are lent say.
use Rattle.std.specs.Prelude.{ℕ, List, [], length, unwrap_or}
use Rattle.fpl_base.specs.declared.kinds.Chip.TheVariants.{None as NoChip}
use Rattle.fpl_base.specs.declared.kinds.Profile.{Profile}
use Rattle.rule_book.specs.declared.cup.Bracket.{Bracket}
use Rattle.rule_book.specs.declared.player.Player.{Player}
use Rattle.rule_book.specs.declared.team.Team.{Team}
use Rattle.rule_book.specs.Calendar.{CalendarFacts}
use Rattle.rule_book.specs.Leagues.{LeagueFacts}
use Rattle.rule_book.specs.MatchFacts.{MatchFacts}
use Rattle.season_ledger.specs.Rows.{cost_by, first_in}
use Rattle.manager_book.specs.Calls.{team_at}
use Rattle.manager_book.specs.Managers.{Managers, season_of}
use Rattle.season_nodes.specs.declared.books.Books.{Books}
use Rattle.season_nodes.specs.Season.{SeasonFacts}

-- the team of an entry that has none
abbrev pub no_team : Team
no_team = record { picks = []; captain = 0; vice = 0; bank = 0; chip = NoChip }

-- an entry's team in a gameweek, as the rows of the managers' book tell it
abbrev pub team_told : Managers → ℕ → ℕ → Team
team_told managers e g = unwrap_or (team_at (season_of managers e) g) no_team

-- the facts of a profile, a calendar, players, matches, managers, leagues and cups
abbrev pub facts_with : Profile → CalendarFacts → List Player → MatchFacts → Managers → List LeagueFacts → List Bracket → SeasonFacts
facts_with profile calendar players matches managers leagues cups = record {
  profile = profile;
  calendar = calendar;
  players = players;
  matches = matches;
  entries = length managers.managers;
  first = λ e. first_in (season_of managers e);
  team = team_told managers;
  cost = λ e g. cost_by managers.profile (season_of managers e) g;
  leagues = leagues;
  cups = cups;
}

-- the facts of the books
abbrev pub facts_of : Books → SeasonFacts
facts_of b = facts_with b.profile b.calendar.now b.players.now b.matches.now b.managers.now b.leagues.now b.cups.now
