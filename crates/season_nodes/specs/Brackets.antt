-- The ties of cups by their brackets. A tie is named by how many rounds are before it, and by its place in its round, from 0.
use Rattle.std.specs.Prelude.{◌≡◌, ℕ, ◌+◌, ◌*◌, ◌/◌, ◌^◌, ◌==◌, Bool, List, [], Some, length, take, drop, pos}
use Rattle.std.specs.List.{list_any}
use Rattle.std.specs.Option.{unwrap_or}
use Rattle.rule_book.specs.Entries.{entry_in}
use Rattle.rule_book.specs.declared.cup.Bracket.{Bracket}
use Rattle.rule_book.specs.declared.cup.Side.{Side}
use Rattle.rule_book.specs.declared.team_score.TeamScore.{TeamScore}
use Rattle.leagues_and_cups.specs.Shapes.{HasShape}

-- the bracket of the cup of a number; one without slots where there is no such cup
abbrev pub no_bracket : Bracket
no_bracket = record { start = 0; slots = []; coins = [] }

abbrev pub bracket_in : List Bracket → ℕ → Bracket
bracket_in cups c = unwrap_or (entry_in cups c) no_bracket

-- how many ties the round after so many rounds has: the slots are halved so often, and once more
abbrev pub ties_after : Bracket → ℕ → ℕ
ties_after bracket r = length bracket.slots / 2 ^ (r + 1)

-- the slots that lead to a tie
abbrev pub part_of : Bracket → ℕ → ℕ → List ℕ
part_of bracket r i = take (2 ^ (r + 1)) (drop (2 ^ (r + 1) * i) bracket.slots)

-- whether an entry is in one of these slots
abbrev pub is_in : List ℕ → ℕ → Bool
is_in slots e = list_any (λ slot. slot == e) slots

-- what a score gives to a tie
abbrev pub side_of : TeamScore → Side
side_of score = record { net = score.net; goals = score.goals; conceded = score.conceded }

-- what one has who has not begun
abbrev pub no_side : Side
no_side = record { net = pos 0; goals = 0; conceded = 0 }

-- each cup has as many slots as its rounds need
abbrev pub AreBrackets : List Bracket → Type 0
AreBrackets cups = (c : ℕ) (bracket : Bracket) → entry_in cups c ≡ Some bracket → HasShape bracket
