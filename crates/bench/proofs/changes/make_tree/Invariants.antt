use Rattle.std.proofs.Common.{◌≡◌, length}
use Rattle.bench.proofs.changes.make_tree.Given as goal

abbrev pub invariant-loop-i : goal.invariant-loop-i
invariant-loop-i l = length l.tree.numbers.items ≡ l.i
