use Rattle.std.proofs.Common.{◌≡◌, ◌++◌, take, flat_map}
use Rattle.std.specs.Int.{w32}
use Rattle.record_fields.specs.Fields.{number}
use Rattle.record_fields.proofs.lists.append_slots.Given as goal

abbrev pub invariant-loop-slot : goal.invariant-loop-slot
invariant-loop-slot l = l.bytes.items ≡ l.fn.bytes.items ++ flat_map (number w32) (take l.slot-index l.fn.slots)
