-- Ranks, of every table.
use Rattle.std.specs.Prelude.{ℕ, ◌+◌, ◌≢◌, List, Bool, count_by, AllPairs}
use Rattle.std.specs.Ordering.{nat_cmp, ordering_then}
use Rattle.std.specs.declared.cmp.Ordering.{Ordering}

-- the rank of one: one more than the number of all that are strictly better
abbrev pub rank_among : {X : Type 0} → (X → X → Bool) → List X → X → ℕ
rank_among is_better all one = count_by (λ other. is_better other one) all + 1

-- no two of them are the same
abbrev pub AllDiffer : List ℕ → Type 0
AllDiffer entries = AllPairs (λ a b. a ≢ b) entries

-- rows stand by rank, those of one rank by entry
abbrev pub by_rank : ℕ × ℕ → ℕ × ℕ → Ordering
by_rank a b = ordering_then (nat_cmp a.0 b.0) (nat_cmp a.1 b.1)
