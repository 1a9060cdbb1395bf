use Rattle.std.proofs.Common.{◌≡◌, ◌++◌, take, flat_map}
use Rattle.std.specs.List.{All}
use Rattle.record_fields.specs.Lists.{pick_bytes}
use Rattle.record_fields.specs.Ranges.{IsPick}
use Rattle.record_fields.proofs.lists.append_picks.Given as goal

abbrev pub invariant-loop-pick : goal.invariant-loop-pick
invariant-loop-pick l = (l.bytes.items ≡ l.fn.bytes.items ++ flat_map pick_bytes (take l.pick-index l.fn.picks)) × All IsPick (take l.pick-index l.fn.picks)
