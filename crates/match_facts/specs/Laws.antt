-- That the definitions of the facts speak of maps.
use Rattle.std.specs.Prelude.{◌≡◌, ℕ, ◌==◌, if◌then◌else◌, Some, None}
use Rattle.rule_book.specs.declared.line.Line.{Line}
use Rattle.rule_book.specs.MatchFacts.{Lines, line_in, players_in, with_line, without_line, by_player, Sheet, MatchFacts, sheet_of, with_sheet}
use Rattle.rule_book.specs.Repeats.{first_repeat}

-- the sheet that was put in is found, and every other fixture keeps its own
abbrev pub SheetsAreAMap : Type 0
SheetsAreAMap = (facts : MatchFacts) (fixture : ℕ) (sheet : Sheet) (other : ℕ)
    → sheet_of (with_sheet facts fixture sheet) other ≡ (if other == fixture then sheet else sheet_of facts other)

-- so with a line among those of a fixture
abbrev pub LinesAreAMap : Type 0
LinesAreAMap = (lines : Lines) (player : ℕ) (line : Line) (other : ℕ)
    → line_in (with_line lines player line) other ≡ (if other == player then Some line else line_in lines other)

-- and without one
abbrev pub LinesGo : Type 0
LinesGo = (lines : Lines) (player other : ℕ)
    → line_in (without_line lines player) other ≡ (if other == player then None else line_in lines other)

-- a sheet that names each player once has the lines that were handed in
abbrev pub SheetsHaveTheirLines : Type 0
SheetsHaveTheirLines = (lines : Lines) (player : ℕ) → first_repeat (players_in lines) ≡ None → line_in (by_player lines) player ≡ line_in lines player
