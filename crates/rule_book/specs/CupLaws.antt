-- What is true of the winners of every cup.
use Rattle.std.specs.Prelude.{ℕ, ◌≡◌, ◌≢◌, ◌<◌, ◌≤◌, ◌+◌, ◌*◌, ◌^◌, if◌then◌else◌, slice_index}
use Rattle.rule_book.specs.declared.cup.Bracket.{Bracket}
use Rattle.rule_book.specs.declared.cup.Side.{Side}
use Rattle.rule_book.specs.Cups.{first_goes_on, coin_after, winner}

-- two winners of a round who are no byes meet in the next one, and the tie says who goes on
abbrev pub TieOfWinners : Bracket → (ℕ → ℕ → Side) → ℕ → ℕ → Type 0
TieOfWinners b side r i =
    let first = winner b side r (2 * i) in
    let second = winner b side r (2 * i + 1) in
    first ≢ 0 → second ≢ 0 → winner b side (r + 1) i ≡ (if first_goes_on (side first (b.start + r)) (side second (b.start + r)) (coin_after b r i) then first else second)

-- a bye lets the other through
abbrev pub ByeLetsThrough : Bracket → (ℕ → ℕ → Side) → ℕ → ℕ → Type 0
ByeLetsThrough b side r i =
    (winner b side r (2 * i) ≡ 0 → winner b side (r + 1) i ≡ winner b side r (2 * i + 1)) × (winner b side r (2 * i + 1) ≡ 0 → winner b side (r + 1) i ≡ winner b side r (2 * i))

-- tie i of round r is won by an entry that stands in one of the slots that lead to the tie
abbrev pub WonByEntrant : Bracket → (ℕ → ℕ → Side) → ℕ → ℕ → Type 0
WonByEntrant b side r i =
    (winner b side r i ≢ 0) × ((slot : ℕ) × (2 ^ r * i ≤ slot) × (slot < 2 ^ r * (i + 1)) × (slice_index b.slots slot ≡ winner b side r i))
