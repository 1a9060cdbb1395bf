-- What an entry scores in a gameweek, from its history and the facts of the season.
use Rattle.std.specs.Prelude.{ℕ, List, map}
use Rattle.fpl_base.specs.declared.kinds.Profile.{Profile}
use Rattle.rule_book.specs.declared.player.Player.{Player}
use Rattle.rule_book.specs.declared.team.Team.{Team}
use Rattle.rule_book.specs.declared.team_score.Figures.{Figures}
use Rattle.rule_book.specs.declared.team_score.TeamScore.{TeamScore}
use Rattle.rule_book.specs.Calendar.{CalendarFacts, has_ended}
use Rattle.rule_book.specs.History.{Event}
use Rattle.rule_book.specs.HistoryTransfers.{cost_at}
use Rattle.rule_book.specs.MatchFacts.{MatchFacts, is_finished}
use Rattle.rule_book.specs.PlayerFigures.{figures_in, position_in}
use Rattle.rule_book.specs.ScoreOfTeam.{score_of}
use Rattle.rule_book.specs.TeamOfHistory.{team_of}

-- what the players of a team did in a gameweek, by slot
abbrev pub figures_of_team : Profile → CalendarFacts → List Player → MatchFacts → Team → ℕ → List Figures
figures_of_team profile calendar players facts team g = map (λ pick. figures_in profile calendar players facts pick.player g) team.picks

-- the score of a team in a gameweek, where its transfers cost so much
abbrev pub score_in : Profile → CalendarFacts → List Player → MatchFacts → Team → ℕ → ℕ → TeamScore
score_in profile calendar players facts team cost g =
    score_of team (figures_of_team profile calendar players facts team g) (has_ended calendar (is_finished facts) g) cost

-- the score of a history in a gameweek
abbrev pub score_at : Profile → CalendarFacts → List Player → MatchFacts → List Event → ℕ → TeamScore
score_at profile calendar players facts h g =
    score_in profile calendar players facts (team_of (position_in players) h g) (cost_at profile h g) g
