use Rattle.std.proofs.Common.{◌≡◌, take}
use Rattle.rescore_graph.proofs.nodes.Nodes.from_slice.Given as goal

-- the list has the nodes so far
abbrev pub invariant-loop-n : goal.invariant-loop-n
invariant-loop-n g l = l.list ≡ take l.n-index l.nodes
