use Rattle.std.proofs.Common.{◌≡◌, ◌++◌, take, flat_map}
use Rattle.std.specs.List.{All}
use Rattle.record_fields.specs.Lists.{row_bytes}
use Rattle.record_fields.specs.Ranges.{IsRow}
use Rattle.record_fields.proofs.lists.append_rows.Given as goal

abbrev pub invariant-loop-row : goal.invariant-loop-row
invariant-loop-row l = (l.bytes.items ≡ l.fn.bytes.items ++ flat_map row_bytes (take l.row-index l.fn.rows)) × All IsRow (take l.row-index l.fn.rows)
