-- How the winners of a round give those of the next one.
use Rattle.std.specs.Prelude.{ℕ, ◌≡◌, ◌+◌, ◌*◌, ◌/◌, ◌^◌, List, length, map, slice_index}
use Rattle.std.specs.List.{range_with_len}
use Rattle.rule_book.specs.CupRounds.{winners_of}
use Rattle.rule_book.specs.Cups.{coin_after, goes_through}
use Rattle.rule_book.specs.declared.cup.Bracket.{Bracket}
use Rattle.rule_book.specs.declared.cup.Side.{Side}

-- who wins a tie of the round after so many rounds, which had these winners: the neighbours 2i and 2i + 1 meet
abbrev pub tie_won : Bracket → (ℕ → ℕ → Side) → ℕ → List ℕ → ℕ → ℕ
tie_won b side round winners i =
    goes_through (slice_index winners (2 * i)) (slice_index winners (2 * i + 1)) (λ e. side e (b.start + round)) (coin_after b round i)

-- the winners of the round after so many rounds, which had these winners
abbrev pub next_winners : Bracket → (ℕ → ℕ → Side) → ℕ → List ℕ → List ℕ
next_winners b side round winners = map (tie_won b side round winners) (range_with_len 0 (length winners / 2))

-- the winners of each round follow from those of the round before
abbrev pub RoundFollows : Bracket → (ℕ → ℕ → Side) → ℕ → Type 0
RoundFollows b side round = winners_of b side (round + 1) ≡ next_winners b side round (winners_of b side round)

-- each round has half as many winners as the one before
abbrev pub WinnersHalve : Bracket → (ℕ → ℕ → Side) → ℕ → Type 0
WinnersHalve b side round = length (winners_of b side round) ≡ length b.slots / 2 ^ round
