use Rattle.std.proofs.Common.{◌≡◌, take}
use Rattle.test_doubles.proofs.kept.backwards.Given as goal

abbrev pub invariant-loop-op : goal.invariant-loop-op
invariant-loop-op l = l.copy.items ≡ take l.op-index l.ops
