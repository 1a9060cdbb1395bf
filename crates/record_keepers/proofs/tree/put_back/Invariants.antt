use Rattle.std.proofs.Common.{◌≡◌}
use Rattle.std.specs.Prelude.{vec_len}
use Rattle.std.specs.List.{All}
use Rattle.record_keepers.specs.Records.{bodies_in, undone, AreOrdered, HasPlace}
use Rattle.record_keepers.proofs.tree.put_back.Given as goal

abbrev pub invariant-loop-was : goal.invariant-loop-was
invariant-loop-was l = record {
  map : undone (bodies_in l.tree.entries) l.former.items ≡ undone (bodies_in l.fn.tree.entries) l.fn.former.items;
  places : All (HasPlace l.tree.entries) l.former.items;
  order : AreOrdered l.tree.entries;
}

abbrev pub decreases-loop-was : goal.decreases-loop-was
decreases-loop-was l = vec_len l.former
