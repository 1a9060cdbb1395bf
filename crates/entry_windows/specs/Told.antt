-- What an entry's gameweek has, as it was read.
use Rattle.std.specs.Prelude.{ℕ, List}
use Rattle.rule_book.specs.EntryScores.{figures_of_team}
use Rattle.rule_book.specs.History.{Event}
use Rattle.rule_book.specs.declared.team.Team.{Team}
use Rattle.rule_book.specs.declared.team_score.Figures.{Figures}
use Rattle.season_book.specs.Book.{Facts}
use Rattle.season_book.specs.EntryViews.{score_by, team_by}
use Rattle.entry_windows.specs.declared.shapes.GameweekRow.{GameweekRow}
use Rattle.entry_windows.specs.declared.shapes.Played.{Played}
use Rattle.season_book.specs.EntryRows.{EntryRow}

-- the team and the score of a history's gameweek
abbrev pub played_by : Facts → List Event → ℕ → Played
played_by facts h g = record { team = team_by facts h g; score = score_by facts h g }

-- what the players of a team did in a gameweek of a season, by slot
abbrev pub figures_in : Facts → Team → ℕ → List Figures
figures_in facts team g = figures_of_team facts.profile facts.calendar facts.players facts.matches team g

-- the row that this one is
abbrev pub told_row : GameweekRow → EntryRow
told_row row = record {
  bank = row.bank;
  event = row.event;
  transfers = row.transfers;
  cost = row.cost;
  rank = row.rank;
  points = row.points;
  bench = row.bench;
  total = row.total;
}
