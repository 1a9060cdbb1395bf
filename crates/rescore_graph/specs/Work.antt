-- The work list of settling: it has each dirty node, and maybe nodes that no longer are.
use Rattle.std.specs.Prelude.{◌≡◌, ◌++◌, List}
use Rattle.rescore_graph.specs.Graph.{Among}
use Rattle.rescore_graph.specs.States.{State, IsDirty}

-- each dirty node is on the list
abbrev pub AreAll : {N V : Type 0} → State N V → List N → Type 0
AreAll {N} s work = (n : N) → IsDirty s n → Among work n

-- the list ys begins with xs
abbrev pub IsFront : {X : Type 0} → List X → List X → Type 0
IsFront {X} xs ys = (more : List X) × (ys ≡ xs ++ more)
