-- The draws of a seed.
use Rattle.std.specs.Prelude.{ℕ, zero, suc, ◌+◌, ◌*◌, ◌/◌, ◌%◌, ◌^◌, List, map}
use Rattle.std.specs.List.{range_with_len}

-- the state behind this one
abbrev pub next_state : ℕ → ℕ
next_state x = (x * 6364136223846793005 + 1442695040888963407) % 2 ^ 64

-- the state behind so many draws; it begins as the seed
unfoldable pub state_after : ℕ → ℕ → ℕ
state_after seed zero = seed
state_after seed (suc n) = next_state (state_after seed n)

-- the draw behind so many others
abbrev pub draw : ℕ → ℕ → ℕ
draw seed n = next_state (state_after seed n) / 2 ^ 33

-- so many draws, from this one on
unfoldable pub draws_at : ℕ → ℕ → ℕ → List ℕ
draws_at seed from n = map (λ k. draw seed (from + k)) (range_with_len 0 n)
