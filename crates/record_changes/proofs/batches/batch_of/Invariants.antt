use Rattle.std.proofs.Common.{◌≡◌, take}
use Rattle.std.specs.List.{All}
use Rattle.record_changes.specs.Batches.{IsToldInRange, batch_by}
use Rattle.record_changes.proofs.batches.batch_of.Given as goal

abbrev pub invariant-loop-slot : goal.invariant-loop-slot
invariant-loop-slot l =
    (l.ops.items ≡ batch_by l.running l.lasts (take l.slot-index l.slots)) × All (IsToldInRange l.running l.lasts) (take l.slot-index l.slots)
