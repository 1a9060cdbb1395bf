-- Rows by ascending id.
use Rattle.std.specs.Prelude.{ℕ, List, ◌++◌, Option, ◌==◌, nat_lt, filter}
use Rattle.std.specs.List.Sorted.{IsStrictlySortedBy}
use Rattle.std.specs.Map.{keys_of, lookup}
use Rattle.std.specs.Ordering.{nat_cmp}

-- what stands at an id
abbrev pub at_id : {X : Type 0} → List (ℕ × X) → ℕ → Option X
at_id rows id = lookup (λ other. other == id) rows

-- the rows with these in place of what stands at an id: first those of smaller ids, then these, then those of greater ids
abbrev pub placed_at : {X : Type 0} → List (ℕ × X) → ℕ → List (ℕ × X) → List (ℕ × X)
placed_at rows id own = filter (λ row. nat_lt row.0 id) rows ++ (own ++ filter (λ row. nat_lt id row.0) rows)

-- the ids ascend
abbrev pub AreSorted : {X : Type 0} → List (ℕ × X) → Type 0
AreSorted rows = IsStrictlySortedBy nat_cmp (keys_of rows)
