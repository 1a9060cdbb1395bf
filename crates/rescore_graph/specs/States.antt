-- What cells hold, as a function of the node.
use Rattle.std.specs.Prelude.{◌≡◌, ℕ, ◌+◌, ◌-◌, ◌^◌, min, Bool, true, false, cond, List, ◌⊎◌, Option, None, Some}
use Rattle.std.specs.declared.cmp.Ordering.{Ordering}
use Rattle.std.specs.Map.{lookup}
use Rattle.std.specs.BTreeMap.{is_at}
use Rattle.rescore_graph.specs.declared.cells.Slot.{Slot}

-- the cell of each live node, and none of the others
abbrev pub State : Type 0 → Type 0 → Type 0
State N V = N → Option (Slot V)

-- what a map of cells has at a node
abbrev pub look : {N V : Type 0} → (N → N → Ordering) → List (N × Slot V) → State N V
look cmp cells n = lookup (is_at (cmp n)) cells

-- the value of a cell, if there is a cell and it has one
abbrev pub value_of : {V : Type 0} → Option (Slot V) → Option V
value_of None = None
value_of (Some s) = s.value

-- whether there is a cell that has to be evaluated
abbrev pub is_dirty : {V : Type 0} → Option (Slot V) → Bool
is_dirty None = false
is_dirty (Some s) = s.dirty

-- how often a cell was evaluated, and 0 without a cell
abbrev pub count_of : {V : Type 0} → Option (Slot V) → ℕ
count_of None = 0
count_of (Some s) = s.count

-- the values that the cells hold
abbrev pub values_in : {N V : Type 0} → State N V → N → Option V
values_in s n = value_of (s n)

-- the node has a cell that has to be evaluated
abbrev pub IsDirty : {N V : Type 0} → State N V → N → Type 0
IsDirty s n = is_dirty (s n) ≡ true

-- the cell of a node that was planted just now: dirty, and without a value
abbrev pub planted : {V : Type 0} → Option (Slot V)
planted = Some (record { value = None; count = 0; dirty = true })

-- a cell that is dirty, and otherwise as it was
abbrev pub raise : {V : Type 0} → Option (Slot V) → Option (Slot V)
raise None = None
raise (Some c) = Some (record { value = c.value; count = c.count; dirty = true })

-- one more evaluation; a count stays at its greatest value
abbrev pub bump : ℕ → ℕ
bump n = min (n + 1) (2 ^ 64 - 1)

-- a cell that was evaluated to v
abbrev pub stored : {V : Type 0} → V → Option (Slot V) → Option (Slot V)
stored v None = None
stored v (Some c) = Some (record { value = Some v; count = bump c.count; dirty = false })

-- t is s with w at n
abbrev pub Puts : {N V : Type 0} → (N → N → Ordering) → State N V → State N V → N → Option (Slot V) → Type 0
Puts {N} cmp s t n w = (q : N) → t q ≡ cond (is_at (cmp n) q) w (s q)

-- t is s with some nodes of P made dirty
abbrev pub Raised : {N V : Type 0} → (N → Type 0) → State N V → State N V → Type 0
Raised {N} P s t = (q : N) → (t q ≡ s q) ⊎ (P q × (t q ≡ raise (s q)))
