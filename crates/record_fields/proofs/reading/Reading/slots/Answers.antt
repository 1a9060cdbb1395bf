use Rattle.std.proofs.lemmas.Result.{err_from_is_err_and}
use Rattle.std.specs.Int.{w32}
use Rattle.record_fields.specs.Reading.{number_at, many_at}
use Rattle.record_fields.proofs.Loops.{goes_on, ends, is_done}
use Rattle.record_fields.proofs.reading.Reading.slots.Goals as goal

pub returns-in_err-slot : goal.returns-in_err-slot
returns-in_err-slot c =
    let p = err_from_is_err_and c.from_residual.result c.from_residual.ensures.1 in
    rw (p.1, p.2) (ends (number_at w32) c.in_err-slot.field-0.0 c.slots.slots c.args.count c.slots.counter c.slots.self (many_at (number_at w32) c.args.count c.args.self.now) c.slots-test.true c.in_err-slot.ensures c.slots.invariant)

pub slots-preserved : goal.slots-preserved
slots-preserved c = rw c.in_ok-push.ensures.ok (goes_on (number_at w32) c.slots.slots c.args.count c.slots.counter c.slots.self c.in_ok-slot.slot c.u32.new.self (many_at (number_at w32) c.args.count c.args.self.now) c.slots-test.true c.in_ok-slot.ensures c.slots.invariant)

pub returns : goal.returns
returns c = is_done (number_at w32) c.slots.slots c.args.count c.slots.counter c.slots.self (many_at (number_at w32) c.args.count c.args.self.now) c.slots-test.false c.slots.invariant
