-- How far from 0 a team's gameweek can be.
use Rattle.std.specs.Prelude.{◌≤◌, ℕ, Bool, List, All, length}
use Rattle.fpl_base.specs.declared.kinds.Profile.{Profile}
use Rattle.rule_book.specs.declared.player.Player.{Player}
use Rattle.rule_book.specs.declared.team.Team.{Team}
use Rattle.rule_book.specs.declared.team_score.Figures.{Figures}
use Rattle.rule_book.specs.declared.team_score.TeamScore.{TeamScore}
use Rattle.rule_book.specs.Calendar.{CalendarFacts, standing}
use Rattle.rule_book.specs.EntryScores.{figures_of_team}
use Rattle.rule_book.specs.FigureRange.{AreFiguresOfTwenty, AreLinesInRange, IsWithin}
use Rattle.rule_book.specs.MatchFacts.{MatchFacts}
use Rattle.rule_book.specs.ScoreOfTeam.{score_of}

-- each player of a team has figures of at most twenty matches in a gameweek in which no more fixtures stand
abbrev pub TeamFiguresAreInRange : Type 0
TeamFiguresAreInRange = (profile : Profile) (calendar : CalendarFacts) (players : List Player) (facts : MatchFacts) (team : Team) (g : ℕ) → AreLinesInRange facts → length (standing calendar g) ≤ 20 → All AreFiguresOfTwenty (figures_of_team profile calendar players facts team g)

-- a score that is within a million points of 0
pub record IsScoreInRange (score : TeamScore) : Type 0 where
  pub net : IsWithin 1000000 score.net
  pub goals : score.goals ≤ 21780
  pub conceded : score.conceded ≤ 21780

-- from such figures, and transfers that cost at most 300,000 points, comes such a score
abbrev pub ScoresAreInRange : Type 0
ScoresAreInRange = (team : Team) (figures : List Figures) (ended : Bool) (cost : ℕ) → All AreFiguresOfTwenty figures → cost ≤ 300000 → IsScoreInRange (score_of team figures ended cost)
