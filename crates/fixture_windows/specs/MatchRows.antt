-- What is read of a match: its players, their lines and their bonuses.
use Rattle.std.specs.Prelude.{◌≡◌, ◌<◌, ℕ, List, get_or, length}
use Rattle.std.specs.List.{zip}
use Rattle.std.specs.Option.{unwrap_or}
use Rattle.rule_book.specs.declared.line.Line.{Line}
use Rattle.rule_book.specs.ById.{at_id}
use Rattle.rule_book.specs.Figures.{IsLine}
use Rattle.rule_book.specs.MatchFacts.{lines_of}
use Rattle.rule_book.specs.PlayerFigures.{bonus_at}
use Rattle.season_book.specs.Book.{Facts}
use Rattle.season_nodes.specs.Season.{Rising}

-- players by ascending number, beside each his line, whose figures are in range, and among the bonuses his own
pub record IsMatch (facts : Facts) (f : ℕ) (players : List ℕ) (lines : List Line) (bonuses : List (ℕ × ℕ)) : Type 0 where
  pub rows : zip players lines ≡ lines_of facts.matches f
  pub paired : length lines ≡ length players
  pub rise : Rising players
  pub ranges : (i : ℕ) (line : Line) → i < length players → IsLine (get_or lines i line)
  pub bonus : (i p : ℕ) (line : Line) → i < length players → unwrap_or (at_id bonuses (get_or players i p)) 0 ≡ bonus_at facts.players facts.matches f (get_or players i p, get_or lines i line)
