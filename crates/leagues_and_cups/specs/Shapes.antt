-- What is true of every cup that was drawn.
use Rattle.std.specs.Prelude.{ℕ, ◌≡◌, ◌≤◌, ◌<◌, ◌+◌, ◌/◌, ◌^◌, List, length, All}
use Rattle.rule_book.specs.CupCalls.{most_cups}
use Rattle.rule_book.specs.declared.cup.Bracket.{Bracket}

-- as many slots as 1 to 10 rounds need, and a coin for each tie
abbrev pub HasShape : Bracket → Type 0
HasShape b =
    ((rounds : ℕ) × (1 ≤ rounds) × (rounds ≤ 10) × (length b.slots ≡ 2 ^ rounds)) × (length b.coins + 1 ≡ length b.slots)

-- the cups of a season: no more than there can be, each of such a shape
pub record AreCups (cups : List Bracket) : Type 0 where
  pub most : length cups ≤ most_cups
  pub shapes : All HasShape cups

-- there is such a tie after so many rounds: half as many as winners
abbrev pub IsTieAfter : Bracket → ℕ → ℕ → Type 0
IsTieAfter b round tie = tie < length b.slots / 2 ^ round / 2
