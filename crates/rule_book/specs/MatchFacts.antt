-- The facts of the matches: each player's line in each fixture, and which fixtures are finished.
use Rattle.std.specs.Prelude.{ℕ, Bool, false, ◌||◌, if◌then◌else◌, List, [], ◌∷◌, Option, unwrap_or, fold, map, length, nat_lt}
use Rattle.rule_book.specs.ById.{at_id, placed_at}
use Rattle.rule_book.specs.declared.line.Line.{Line}

-- lines by player
abbrev pub Lines : Type 0
Lines = List (ℕ × Line)

-- the line of a player
abbrev pub line_in : Lines → ℕ → Option Line
line_in lines player = at_id lines player

-- the players who have a line
abbrev pub players_in : Lines → List ℕ
players_in lines = map (λ row. row.0) lines

-- the lines with a player's line added or replaced
abbrev pub with_line : Lines → ℕ → Line → Lines
with_line lines player line = placed_at lines player ((player, line) ∷ [])

-- the lines without a player's
abbrev pub without_line : Lines → ℕ → Lines
without_line lines player = placed_at lines player []

-- lines in any order, put in one after the other
abbrev pub by_player : Lines → Lines
by_player lines = fold (λ so_far row. with_line so_far row.0 row.1) [] lines

-- the facts of one fixture: its lines by ascending player, and whether it is finished
pub record Sheet : Type 0 where
  pub lines : Lines
  pub finished : Bool

-- a fixture without a line that is not finished
abbrev pub bare_sheet : Sheet
bare_sheet = record { lines = []; finished = false }

-- a sheet with a line, or with the finished mark
abbrev pub tells_facts : Sheet → Bool
tells_facts sheet = sheet.finished || nat_lt 0 (length sheet.lines)

-- the sheets of the fixtures that have facts, by ascending fixture
abbrev pub MatchFacts : Type 0
MatchFacts = List (ℕ × Sheet)

-- the sheet of a fixture
abbrev pub sheet_of : MatchFacts → ℕ → Sheet
sheet_of facts fixture = unwrap_or (at_id facts fixture) bare_sheet

-- the facts with this sheet for a fixture
abbrev pub with_sheet : MatchFacts → ℕ → Sheet → MatchFacts
with_sheet facts fixture sheet = placed_at facts fixture (if tells_facts sheet then (fixture, sheet) ∷ [] else [])

-- the lines of a fixture
abbrev pub lines_of : MatchFacts → ℕ → Lines
lines_of facts fixture = (sheet_of facts fixture).lines

-- the line of a player in a fixture
abbrev pub line_of : MatchFacts → ℕ → ℕ → Option Line
line_of facts fixture player = line_in (lines_of facts fixture) player

-- whether a fixture is finished
abbrev pub is_finished : MatchFacts → ℕ → Bool
is_finished facts fixture = (sheet_of facts fixture).finished

-- a fixture has facts: a line, or the finished mark
abbrev pub has_facts : MatchFacts → ℕ → Bool
has_facts facts fixture = tells_facts (sheet_of facts fixture)
