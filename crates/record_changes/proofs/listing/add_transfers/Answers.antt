use Rattle.std.proofs.Common.{arith}
use Rattle.season_records.specs.declared.slot.Slot.TheVariants as slot
use Rattle.record_changes.proofs.ChangesMade.{added}
use Rattle.record_changes.proofs.listing.add_transfers.Goals as goal

pub loop-number-preserved : goal.loop-number-preserved
loop-number-preserved c = (
  omega (arith, c.loop-number.invariant.0),
  added (slot.Transfer c.args.entry c.args.gameweek) c.args.slots.now.items c.loop-number.slots.items c.push.new.self.items c.args.first c.loop-number.number
      c.loop-number.invariant.0 c.loop-number.invariant.1 c.in_ok-push.ensures.items,
)
