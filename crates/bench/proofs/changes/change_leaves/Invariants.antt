use Rattle.std.proofs.Common.{nat_cmp, length, ◌≤◌}
use Rattle.rescore_graph.specs.States.{look}
use Rattle.rescore_graph.specs.Settling.{Sound}
use Rattle.bench.specs.Tree.{tree_graph}
use Rattle.bench.proofs.changes.change_leaves.Given as goal

abbrev pub invariant-loop : goal.invariant-loop
invariant-loop l = record {
  sound : Sound (tree_graph (length l.tree.numbers.items) l.tree.numbers.items) (look nat_cmp l.cells);
  high : l.node ≤ length l.tree.numbers.items;
}
