-- What a season keeps makes its facts those of a season.
use Rattle.std.proofs.Common.{◌≡◌, ℕ, true, List, Some, is_some}
use Rattle.rule_book.specs.declared.cup.Bracket.{Bracket}
use Rattle.rule_book.specs.declared.line.Line.{Line}
use Rattle.rule_book.specs.Calendar.{IsCalendar}
use Rattle.rule_book.specs.Figures.{IsLine}
use Rattle.rule_book.specs.MatchFacts.{line_of, lines_of, players_in}
use Rattle.rule_book.specs.Leagues.{LeagueFacts}
use Rattle.rule_book.specs.Players.{player_of}
use Rattle.manager_book.specs.Managers.{Managers}
use Rattle.season_book.specs.Book.{Facts}
use Rattle.season_nodes.specs.Brackets.{AreBrackets}
use Rattle.season_nodes.specs.Season.{AreOrders, IsSeason, Rising}
use Rattle.season_views.specs.Cells.{books_seen}

pub is_season : (facts : Facts) (managers : Managers) (leagues : List LeagueFacts) (cups : List Bracket) → IsCalendar facts.calendar → ((f : ℕ) → Rising (players_in (lines_of facts.matches f)))
    → ((f p : ℕ) (line : Line) → line_of facts.matches f p ≡ Some line → IsLine line)
    → ((f p : ℕ) → is_some (line_of facts.matches f p) ≡ true → is_some (player_of facts.players p) ≡ true)
    → AreOrders leagues → AreBrackets cups → IsSeason (books_seen facts managers leagues cups)
is_season facts managers leagues cups lawful rise ranges there orders brackets =
    record { calendar = lawful; ascending = rise; ranges = ranges; there = there; orders = orders; brackets = brackets }
