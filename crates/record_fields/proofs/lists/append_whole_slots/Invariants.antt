use Rattle.std.proofs.Common.{◌≡◌, ◌++◌, take, flat_map}
use Rattle.record_fields.specs.Fields.{whole}
use Rattle.record_fields.proofs.lists.append_whole_slots.Given as goal

abbrev pub invariant-loop-slot : goal.invariant-loop-slot
invariant-loop-slot l = l.bytes.items ≡ l.fn.bytes.items ++ flat_map whole (take l.slot-index l.fn.slots)
