-- The winners of the rounds of a cup, by what each entry has in each gameweek.
use Rattle.std.specs.Prelude.{ℕ, ◌+◌, ◌/◌, ◌^◌, if◌then◌else◌, nat_le, List, length, map, count_by, Option, Some, None}
use Rattle.std.specs.List.{range_with_len}
use Rattle.rule_book.specs.Cups.{winner}
use Rattle.rule_book.specs.declared.cup.Bracket.{Bracket}
use Rattle.rule_book.specs.declared.cup.Side.{Side}

-- the winners of a round, tie by tie; round 0 has the slots themselves
abbrev pub winners_of : Bracket → (ℕ → ℕ → Side) → ℕ → List ℕ
winners_of b side round = map (winner b side round) (range_with_len 0 (length b.slots / 2 ^ round))

-- the same where the round's gameweek is locked
abbrev pub locked_winners : Bracket → (ℕ → ℕ → Side) → ℕ → ℕ → Option (List ℕ)
locked_winners b side locked round = if nat_le (b.start + round) (locked + 1) then Some (winners_of b side round) else None

-- how many rounds a cup has: as many as there are powers of two up to its slots, at most ten
abbrev pub rounds_of : Bracket → ℕ
rounds_of b = count_by (λ round. nat_le (2 ^ round) (length b.slots)) (range_with_len 1 10)

-- the winners of each round, where its gameweek is locked
abbrev pub rounds_shown : Bracket → (ℕ → ℕ → Side) → ℕ → List (Option (List ℕ))
rounds_shown b side locked = map (locked_winners b side locked) (range_with_len 1 (rounds_of b))
