use Rattle.std.proofs.lemmas.Result.{err_from_is_err_and}
use Rattle.record_fields.specs.FieldReading.{whole_in}
use Rattle.record_fields.specs.Reading.{many_at}
use Rattle.record_fields.proofs.Loops.{goes_on, ends, is_done}
use Rattle.record_fields.proofs.reading.Reading.whole_slots.Goals as goal

pub returns-in_err-slot : goal.returns-in_err-slot
returns-in_err-slot c =
    let p = err_from_is_err_and c.from_residual.result c.from_residual.ensures.1 in
    rw (p.1, p.2) (ends (whole_in 0 4294967295) c.in_err-slot.field-0.0 c.whole_slots.whole_slots c.args.count c.whole_slots.counter c.whole_slots.self (many_at (whole_in 0 4294967295) c.args.count c.args.self.now) c.whole_slots-test.true c.in_err-slot.ensures c.whole_slots.invariant)

pub whole_slots-preserved : goal.whole_slots-preserved
whole_slots-preserved c = rw c.in_ok-push.ensures.ok (goes_on (whole_in 0 4294967295) c.whole_slots.whole_slots c.args.count c.whole_slots.counter c.whole_slots.self c.in_ok-slot.slot c.whole_u32.new.self (many_at (whole_in 0 4294967295) c.args.count c.args.self.now) c.whole_slots-test.true c.in_ok-slot.ensures c.whole_slots.invariant)

pub returns : goal.returns
returns c = is_done (whole_in 0 4294967295) c.whole_slots.whole_slots c.args.count c.whole_slots.counter c.whole_slots.self (many_at (whole_in 0 4294967295) c.args.count c.args.self.now) c.whole_slots-test.false c.whole_slots.invariant
