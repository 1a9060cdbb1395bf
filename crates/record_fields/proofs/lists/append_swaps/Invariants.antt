use Rattle.std.proofs.Common.{◌≡◌, ◌++◌, take, flat_map}
use Rattle.std.specs.List.{All}
use Rattle.record_fields.specs.Lists.{swap_bytes}
use Rattle.record_fields.specs.Ranges.{IsSwap}
use Rattle.record_fields.proofs.lists.append_swaps.Given as goal

abbrev pub invariant-loop-swap : goal.invariant-loop-swap
invariant-loop-swap l = (l.bytes.items ≡ l.fn.bytes.items ++ flat_map swap_bytes (take l.swap-index l.fn.swaps)) × All IsSwap (take l.swap-index l.fn.swaps)
