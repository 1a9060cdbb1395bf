use Rattle.std.proofs.Common.{◌≡◌, ◌≤◌, ◌++◌, ◌-◌, map}
use Rattle.std.specs.List.{range_with_len}
use Rattle.season_records.specs.declared.slot.Slot.TheVariants as slot
use Rattle.record_changes.proofs.listing.add_transfers.Given as goal

abbrev pub invariant-loop-number : goal.invariant-loop-number
invariant-loop-number l =
    (l.fn.first ≤ l.number) × (l.slots.items ≡ l.fn.slots.items ++ map (slot.Transfer l.fn.entry l.fn.gameweek) (range_with_len l.fn.first (l.number - l.fn.first)))
