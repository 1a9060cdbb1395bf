-- The fifteen of a team of a lawful history.
use Rattle.std.specs.Prelude.{◌≡◌, ◌≤◌, ℕ, true, List, length}
use Rattle.std.specs.List.{AllByRecursion as Each}
use Rattle.rule_book.specs.EntryRecords.{IsPriced}
use Rattle.rule_book.specs.History.{Event, kept}
use Rattle.rule_book.specs.HistoryRules.{IsHistory, times}
use Rattle.rule_book.specs.HistorySquad.{armbands_of, holdings_of, order_of, picks_of}
use Rattle.rule_book.specs.HistoryTeam.{is_begun}
use Rattle.rule_book.specs.PlayerFigures.{position_in}
use Rattle.rule_book.specs.Squads.{has_squad_shape, positions_of}
use Rattle.season_book.specs.Book.{Facts}
use Rattle.lawful_books.specs.Histories.{AreLinedUp, IsLawfulHistory}

-- fifteen picks in a squad of the right shape
pub record HaveShape (facts : Facts) (h : List Event) (g : ℕ) : Type 0 where
  pub shape : has_squad_shape (positions_of (picks_of (position_in facts.players) (kept h g))) ≡ true
  pub fifteen : length (picks_of (position_in facts.players) (kept h g)) ≡ 15

-- from its first gameweek on, the team of a lawful history has the shape of a squad
abbrev pub TeamsHaveShape : Type 0
TeamsHaveShape = (facts : Facts) (h : List Event) (g : ℕ) → IsHistory h → IsLawfulHistory facts h → is_begun h g ≡ true → HaveShape facts h g

-- fifteen who are there stand in a legal lineup, at prices that can be, and none of them twice
pub record AreFit (facts : Facts) (es : List Event) : Type 0 where
  pub lined_up : AreLinedUp facts (order_of es) (armbands_of es).0 (armbands_of es).1
  pub priced : Each IsPriced (holdings_of es)
  pub apart : (p : ℕ) → times p (order_of es) ≤ 1

-- so do those of a team of a lawful history
abbrev pub TeamsAreFit : Type 0
TeamsAreFit = (facts : Facts) (h : List Event) (g : ℕ) → IsHistory h → IsLawfulHistory facts h → is_begun h g ≡ true → AreFit facts (kept h g)
