-- Cups: which draw can be played, who goes on in a tie, and who wins each tie. Round r, from 1, is played in the
-- gameweek that is r - 1 after the start.
use Rattle.std.specs.Prelude.{ℕ, zero, suc, ◌≡◌, ◌≢◌, ◌<◌, ◌≤◌, ◌+◌, ◌-◌, ◌*◌, ◌/◌, ◌^◌, Bool, true, not, ◌&&◌, ◌||◌, ◌==◌, if◌then◌else◌, nat_le, nat_lt, int_lt, Option, None, Some, List, [], ◌∷◌, length, slice_index}
use Rattle.std.specs.List.{list_all, list_any, range_with_len}
use Rattle.std.specs.Ordering.{int_eq}
use Rattle.fpl_base.specs.declared.rule.Rule.{Rule}
use Rattle.fpl_base.specs.declared.rule.Rule.TheVariants.{StartPassed, DrawWrong}
use Rattle.rule_book.specs.declared.cup.Bracket.{Bracket}
use Rattle.rule_book.specs.declared.cup.Side.{Side}

-- as many slots as 1 to 10 rounds need, of which the last is played in the season
abbrev pub HasRounds : Bracket → ℕ → Type 0
HasRounds b gameweeks =
    (rounds : ℕ) × (1 ≤ rounds) × (rounds ≤ 10) × (length b.slots ≡ 2 ^ rounds) × (b.start + rounds ≤ gameweeks + 1)

-- no entry stands in two slots
abbrev pub StandsOnce : List ℕ → Type 0
StandsOnce slots = (i j : ℕ) → i < j → j < length slots → slice_index slots i ≢ 0 → slice_index slots i ≢ slice_index slots j

-- no two byes meet in the first round
abbrev pub HasNoByeTie : List ℕ → Type 0
HasNoByeTie slots = (i : ℕ) → 2 * i + 1 < length slots → slice_index slots (2 * i) ≡ 0 → slice_index slots (2 * i + 1) ≢ 0

-- a cup that can be played in a season of so many gameweeks
pub record IsCup (b : Bracket) (gameweeks : ℕ) : Type 0 where
  pub rounds : HasRounds b gameweeks
  pub coin_for_each_tie : length b.coins + 1 ≡ length b.slots
  pub stands_once : StandsOnce b.slots
  pub no_bye_tie : HasNoByeTie b.slots

-- the same four as tests
abbrev pub has_rounds : Bracket → ℕ → Bool
has_rounds b gameweeks =
    list_any (λ rounds. (length b.slots == 2 ^ rounds) && nat_le (b.start + rounds) (gameweeks + 1)) (range_with_len 1 10)

abbrev pub stands_once : List ℕ → Bool
stands_once [] = true
stands_once (slot ∷ slots) = ((slot == 0) || not (list_any (λ other. slot == other) slots)) && stands_once slots

abbrev pub has_no_bye_tie : List ℕ → Bool
has_no_bye_tie slots =
    list_all (λ i. not ((slice_index slots (2 * i) == 0) && (slice_index slots (2 * i + 1) == 0))) (range_with_len 0 (length slots / 2))

abbrev pub is_cup : Bracket → ℕ → Bool
is_cup b gameweeks =
    has_rounds b gameweeks && ((length b.coins + 1 == length b.slots) && (stands_once b.slots && has_no_bye_tie b.slots))

-- the first rule that a cup breaks, where so many gameweeks are locked: its start has passed, or else it can't be played
abbrev pub wrong_cup : Bracket → ℕ → ℕ → Option Rule
wrong_cup b gameweeks locked =
    if nat_le b.start locked then Some (StartPassed b.start) else (if is_cup b gameweeks then None else Some DrawWrong)

-- the first of two goes on: by more points, then more goals, then fewer conceded, then a coin of 0
abbrev pub first_goes_on : Side → Side → ℕ → Bool
first_goes_on a b coin =
    int_lt b.net a.net || (int_eq a.net b.net && (nat_lt b.goals a.goals || ((a.goals == b.goals) && (nat_lt a.conceded b.conceded || ((a.conceded == b.conceded) && (coin == 0))))))

-- who goes on of two slots, where 0 is a bye, which lets the other through; each entry has a side
abbrev pub goes_through : ℕ → ℕ → (ℕ → Side) → ℕ → ℕ
goes_through first second side coin =
    if first == 0 then second else (if second == 0 then first else (if first_goes_on (side first) (side second) coin then first else second))

-- the coin of tie i of the round after r rounds: those of the rounds before stand in front
abbrev pub coin_after : Bracket → ℕ → ℕ → ℕ
coin_after b r i = slice_index b.coins (length b.slots - length b.slots / 2 ^ r + i)

-- who wins tie i of round r, where each entry has a side in each gameweek; round 0 has the slots themselves
abbrev pub winner : Bracket → (ℕ → ℕ → Side) → ℕ → ℕ → ℕ
winner b side zero i = slice_index b.slots i
winner b side (suc r) i =
    goes_through (winner b side r (2 * i)) (winner b side r (2 * i + 1)) (λ e. side e (b.start + r)) (coin_after b r i)
