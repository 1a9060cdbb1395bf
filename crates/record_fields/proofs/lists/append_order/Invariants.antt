use Rattle.std.proofs.Common.{◌≡◌, ◌++◌, take, flat_map}
use Rattle.std.specs.List.{All}
use Rattle.std.specs.Int.{w32}
use Rattle.record_fields.specs.Fields.{number}
use Rattle.record_fields.specs.Ranges.{IsId}
use Rattle.record_fields.proofs.lists.append_order.Given as goal

abbrev pub invariant-loop-entry : goal.invariant-loop-entry
invariant-loop-entry l = (l.bytes.items ≡ l.fn.bytes.items ++ flat_map (number w32) (take l.entry-index l.fn.entries)) × All IsId (take l.entry-index l.fn.entries)
