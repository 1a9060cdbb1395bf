-- A tree of numbers: below node h stand the nodes 2h and 2h + 1, where they are there.
use Rattle.std.specs.Prelude.{ℕ, ◌+◌, ◌-◌, ◌*◌, ◌≤◌, max, List, [], ◌∷◌, ◌++◌, cond, nat_le, Option, slice_index}
use Rattle.std.specs.Option.{unwrap_or}
use Rattle.std.specs.Int.{w32, leading_zeros}
use Rattle.rescore_graph.specs.Graph.{Graph}

-- a node of a tree of this size
abbrev pub IsNode : ℕ → ℕ → Type 0
IsNode size h = (1 ≤ h) × (h ≤ size)

-- the node m, where it is there
abbrev pub if_there : ℕ → ℕ → List ℕ
if_there size m = cond (nat_le m size) (m ∷ []) []

-- the nodes right below h
abbrev pub below : ℕ → ℕ → List ℕ
below size h = if_there size (2 * h) ++ if_there size (2 * h + 1)

-- the value of a node, and 0 of one that is not there
abbrev pub part : ℕ → (ℕ → Option ℕ) → ℕ → ℕ
part size f m = cond (nat_le m size) (unwrap_or (f m) 0) 0

-- a node's value is the greatest of its number and of the values below it
abbrev pub tree_graph : ℕ → List ℕ → Graph ℕ ℕ
tree_graph size numbers = record {
  live = IsNode size;
  inputs = below size;
  level = leading_zeros w32;
  weight = λ h. 2;
  own = λ h f. max (max (slice_index numbers (h - 1)) (part size f (2 * h))) (part size f (2 * h + 1));
}
