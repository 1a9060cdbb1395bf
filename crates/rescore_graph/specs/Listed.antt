-- The list of nodes that may be dirty.
use Rattle.std.specs.Prelude.{◌≡◌, true, List}
use Rattle.std.specs.List.{list_any}
use Rattle.std.specs.declared.cmp.Ordering.{Ordering}
use Rattle.std.specs.BTreeMap.{is_at}
use Rattle.rescore_graph.specs.declared.cells.Slot.{Slot}
use Rattle.rescore_graph.specs.States.{look, is_dirty}

-- each dirty node is listed
abbrev pub IsListed : {N V : Type 0} → (N → N → Ordering) → List (N × Slot V) → List N → Type 0
IsListed {N} cmp cells pending = (n : N) → is_dirty (look cmp cells n) ≡ true → list_any (is_at (cmp n)) pending ≡ true
