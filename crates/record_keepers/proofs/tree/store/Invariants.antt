use Rattle.std.proofs.Common.{◌≡◌, ◌≤◌, length, take}
use Rattle.std.specs.Prelude.{vec_len, vec_capacity}
use Rattle.std.specs.List.{All}
use Rattle.fpl_base.specs.Keeping.{applied}
use Rattle.record_keepers.specs.Records.{bodies_in, undone, AreOrdered, HasPlace}
use Rattle.record_keepers.proofs.tree.store.Given as goal

-- the changes so far are made, what stood in their places undoes them, and there is room for what is left
abbrev pub invariant-loop-op : goal.invariant-loop-op
invariant-loop-op l = record {
  stored : bodies_in l.tree.entries ≡ applied (bodies_in l.fn.tree.entries) (take l.op-index l.ops);
  before : undone (bodies_in l.tree.entries) l.former.items ≡ bodies_in l.fn.tree.entries;
  places : All (HasPlace l.tree.entries) l.former.items;
  order : AreOrdered l.tree.entries;
  size : vec_len l.former ≡ l.op-index;
  room : length l.ops ≤ vec_capacity l.former;
}
