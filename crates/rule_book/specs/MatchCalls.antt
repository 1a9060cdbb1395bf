-- What may be handed in on a match, and what it changes.
use Rattle.std.specs.Prelude.{ℕ, Bool, if◌then◌else◌, [], ◌∷◌, Option, Some, None, nat_lt, length, map}
use Rattle.std.specs.Option.{option_map}
use Rattle.fpl_base.specs.declared.rule.Rule.{Rule}
use Rattle.fpl_base.specs.declared.rule.Rule.TheVariants.{NotLocked, LineTwice, LinesFull}
use Rattle.rule_book.specs.declared.line.Line.{Line}
use Rattle.rule_book.specs.Figures.{line_range}
use Rattle.rule_book.specs.MatchFacts.{Lines, MatchFacts, players_in, with_line, without_line, by_player, with_sheet, lines_of, is_finished}
use Rattle.rule_book.specs.Refusals.{first_broken}
use Rattle.rule_book.specs.Repeats.{first_repeat}

-- a fixture that stands in no locked gameweek
abbrev pub not_locked : ℕ → Bool → Option Rule
not_locked fixture locked = if locked then None else Some (NotLocked fixture)

-- more than 64 lines would stand
abbrev pub lines_full : Lines → Option Rule
lines_full lines = if nat_lt 64 (length lines) then Some LinesFull else None

-- the first player who has a second line
abbrev pub line_twice : Lines → Option Rule
line_twice lines = option_map LineTwice (first_repeat (players_in lines))

-- the first wrong line of a list
abbrev pub lines_range : Lines → Option Rule
lines_range lines = first_broken (map (λ row. line_range row.1) lines)

-- a sheet that is handed in
abbrev pub sheet_refusal : ℕ → Bool → Lines → Option Rule
sheet_refusal fixture locked lines = first_broken (not_locked fixture locked ∷ lines_full lines ∷ line_twice lines ∷ lines_range lines ∷ [])

-- it replaces all lines of the fixture and the mark
abbrev pub put_sheet : MatchFacts → ℕ → Lines → Bool → MatchFacts
put_sheet facts fixture lines finished = with_sheet facts fixture (record { lines = by_player lines; finished = finished })

-- a line that is handed in
abbrev pub line_refusal : MatchFacts → ℕ → Bool → ℕ → Line → Option Rule
line_refusal facts fixture locked player line =
    first_broken (not_locked fixture locked ∷ lines_full (with_line (lines_of facts fixture) player line) ∷ line_range line ∷ [])

-- it is added, or replaces that of the player
abbrev pub put_line : MatchFacts → ℕ → ℕ → Line → MatchFacts
put_line facts fixture player line =
    with_sheet facts fixture (record { lines = with_line (lines_of facts fixture) player line; finished = is_finished facts fixture })

-- a line that is taken away
abbrev pub drop_line : MatchFacts → ℕ → ℕ → MatchFacts
drop_line facts fixture player =
    with_sheet facts fixture (record { lines = without_line (lines_of facts fixture) player; finished = is_finished facts fixture })

-- the mark that is set or taken away
abbrev pub set_finished : MatchFacts → ℕ → Bool → MatchFacts
set_finished facts fixture finished = with_sheet facts fixture (record { lines = lines_of facts fixture; finished = finished })
