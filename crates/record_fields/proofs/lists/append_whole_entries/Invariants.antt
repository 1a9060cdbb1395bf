use Rattle.std.proofs.Common.{◌≡◌, ◌++◌, take, flat_map}
use Rattle.std.specs.List.{All}
use Rattle.record_fields.specs.Fields.{whole}
use Rattle.record_fields.specs.Ranges.{IsId}
use Rattle.record_fields.proofs.lists.append_whole_entries.Given as goal

abbrev pub invariant-loop-entry : goal.invariant-loop-entry
invariant-loop-entry l = (l.bytes.items ≡ l.fn.bytes.items ++ flat_map whole (take l.entry-index l.fn.entries)) × All IsId (take l.entry-index l.fn.entries)
