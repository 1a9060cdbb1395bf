use Rattle.std.proofs.Common.{◌≡◌, ◌++◌, take, flat_map}
use Rattle.std.specs.Int.{w16}
use Rattle.record_fields.specs.Fields.{number}
use Rattle.record_fields.proofs.lists.append_figures.Given as goal

abbrev pub invariant-loop-figure : goal.invariant-loop-figure
invariant-loop-figure l = l.bytes.items ≡ l.fn.bytes.items ++ flat_map (number w16) (take l.figure-index l.fn.figures)
