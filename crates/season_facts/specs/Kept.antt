-- What holds of the facts of a season at every moment.
use Rattle.std.specs.Prelude.{◌≡◌, ◌≤◌, ℕ, Some, All, is_some, true}
use Rattle.rule_book.specs.declared.line.Line.{Line}
use Rattle.rule_book.specs.Figures.{IsLine}
use Rattle.rule_book.specs.MatchFacts.{line_of}
use Rattle.rule_book.specs.Players.{player_of}
use Rattle.season_book.specs.Book.{Facts}

-- an id that a player or a fixture can have
abbrev pub IsId : ℕ → Type 0
IsId id = (1 ≤ id) × (id ≤ 999999)

-- players and fixtures have ids that they can have, and each line is one that a player who is there can have
pub record AreFacts (facts : Facts) : Type 0 where
  pub player_ids : All (λ player. IsId player.id) facts.players
  pub fixture_ids : All (λ fixture. IsId fixture.id) facts.calendar.fixtures
  pub lines_in_range : (f p : ℕ) (line : Line) → line_of facts.matches f p ≡ Some line → IsLine line
  pub lines_there : (f p : ℕ) → is_some (line_of facts.matches f p) ≡ true → is_some (player_of facts.players p) ≡ true
