-- How far from 0 a player's gameweek can be.
use Rattle.std.specs.Prelude.{◌≡◌, ◌≤◌, ℕ, ℤ, pos, neg_ℤ, ◌≤ℤ◌, List, Some, length}
use Rattle.fpl_base.specs.declared.kinds.Profile.{Profile}
use Rattle.rule_book.specs.declared.line.Line.{Line}
use Rattle.rule_book.specs.declared.player.Player.{Player}
use Rattle.rule_book.specs.declared.team_score.Figures.{Figures}
use Rattle.rule_book.specs.Calendar.{CalendarFacts, standing}
use Rattle.rule_book.specs.Figures.{IsLine}
use Rattle.rule_book.specs.MatchFacts.{MatchFacts, line_of}
use Rattle.rule_book.specs.PlayerFigures.{figures_in}

-- each line of the facts is in range
abbrev pub AreLinesInRange : MatchFacts → Type 0
AreLinesInRange facts = (fixture player : ℕ) (line : Line) → line_of facts fixture player ≡ Some line → IsLine line

-- a number is at most so far from 0
abbrev pub IsWithin : ℕ → ℤ → Type 0
IsWithin far z = (neg_ℤ (pos far) ≤ℤ z) × (z ≤ℤ pos far)

-- figures of at most twenty matches: 2,000 points and 99 goals of either kind in each
pub record AreFiguresOfTwenty (figures : Figures) : Type 0 where
  pub points : IsWithin 40000 figures.points
  pub goals : figures.goals ≤ 1980
  pub conceded : figures.conceded ≤ 1980

-- a gameweek in which at most twenty fixtures stand gives such figures
abbrev pub FiguresAreInRange : Type 0
FiguresAreInRange = (profile : Profile) (calendar : CalendarFacts) (players : List Player) (facts : MatchFacts) (player g : ℕ) → AreLinesInRange facts → length (standing calendar g) ≤ 20 → AreFiguresOfTwenty (figures_in profile calendar players facts player g)
