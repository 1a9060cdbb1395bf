use Rattle.std.proofs.Common.{◌≡◌, ◌++◌, take, flat_map}
use Rattle.std.specs.List.{All}
use Rattle.std.specs.Int.{w64}
use Rattle.record_fields.specs.Fields.{number}
use Rattle.record_fields.specs.Ranges.{IsMoment}
use Rattle.record_fields.proofs.lists.append_moments.Given as goal

abbrev pub invariant-loop-moment : goal.invariant-loop-moment
invariant-loop-moment l = (l.bytes.items ≡ l.fn.bytes.items ++ flat_map (number w64) (take l.moment-index l.fn.moments)) × All IsMoment (take l.moment-index l.fn.moments)
