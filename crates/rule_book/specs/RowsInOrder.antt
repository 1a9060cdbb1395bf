-- The rows of a table put in order: by rank, those of one rank by entry.
use Rattle.std.specs.Prelude.{ℕ, List, [], ◌∷◌, if◌then◌else◌}
use Rattle.std.specs.Ordering.{is_lt}
use Rattle.rule_book.specs.Ranks.{by_rank}

-- a row put in before the first that does not stand before it
abbrev pub put_in : {X : Type 0} → (X → ℕ × ℕ) → X → List X → List X
put_in place row [] = row ∷ []
put_in place row (other ∷ rows) = if is_lt (by_rank (place other) (place row)) then other ∷ put_in place row rows else row ∷ other ∷ rows

-- rows in order of their places, each a rank and an entry
abbrev pub in_order : {X : Type 0} → (X → ℕ × ℕ) → List X → List X
in_order place [] = []
in_order place (row ∷ rows) = put_in place row (in_order place rows)
