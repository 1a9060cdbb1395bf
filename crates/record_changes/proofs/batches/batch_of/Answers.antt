use Rattle.record_changes.specs.Batches.{told_of}
use Rattle.record_changes.proofs.Batched.{all_of_them, one_more}
use Rattle.record_changes.proofs.batches.batch_of.Goals as goal

pub loop-slot-preserved : goal.loop-slot-preserved
loop-slot-preserved c =
    one_more (told_of c.args.running.now c.args.lasts.now) c.args.slots.now c.loop-slot.slot-index _ c.loop-slot.ops.items c.push.new.self.items c.in_ok-op_at.field-0
    c.loop-slot-test.true c.loop-slot.invariant c.in_ok-push.ensures.items c.in_ok-op_at.ensures

pub returns-clause-items : goal.returns-clause-items
returns-clause-items c =
    all_of_them (told_of c.args.running.now c.args.lasts.now) c.args.slots.now c.loop-slot.slot-index c.loop-slot-test.false c.loop-slot.invariant.1
