-- What a fixture's lines are worth by what is told of their nodes.
use Rattle.std.specs.Prelude.{◌≡◌, ℕ, Some}
use Rattle.std.specs.Option.{unwrap_or}
use Rattle.rule_book.specs.declared.line.Line.{Line}
use Rattle.rule_book.specs.ById.{at_id}
use Rattle.rule_book.specs.MatchFacts.{line_of, lines_of}
use Rattle.rule_book.specs.PlayerFigures.{bonus_at, position_in}
use Rattle.rescore_graph.specs.Graph.{Among}
use Rattle.season_graph.specs.Told.{bonuses_told}
use Rattle.season_nodes.specs.Season.{IsSeason, SeasonFacts, line_worth, worth_of}

-- a line of a fixture is the one that is found by its player, it has the worth of its figures, and its bonus is among those
-- of the fixture
pub record IsLineTold (b : SeasonFacts) (f : ℕ) (row : ℕ × Line) : Type 0 where
  pub found : line_of b.matches f row.0 ≡ Some row.1
  pub worth : line_worth b f row.0 ≡ worth_of b.profile (position_in b.players row.0) row.1
  pub bonus : unwrap_or (at_id (bonuses_told b f) row.0) 0 ≡ bonus_at b.players b.matches f row

-- so has each line in a season
abbrev pub LinesAreTold : Type 0
LinesAreTold = (b : SeasonFacts) (f : ℕ) (row : ℕ × Line) → IsSeason b → Among (lines_of b.matches f) row → IsLineTold b f row
