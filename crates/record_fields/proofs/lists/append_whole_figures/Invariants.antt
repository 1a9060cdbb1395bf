use Rattle.std.proofs.Common.{◌≡◌, ◌++◌, take, flat_map}
use Rattle.record_fields.specs.Fields.{whole}
use Rattle.record_fields.proofs.lists.append_whole_figures.Given as goal

abbrev pub invariant-loop-figure : goal.invariant-loop-figure
invariant-loop-figure l = l.bytes.items ≡ l.fn.bytes.items ++ flat_map whole (take l.figure-index l.fn.figures)
