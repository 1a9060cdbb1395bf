use Rattle.std.proofs.lemmas.Result.{err_from_is_err_and}
use Rattle.record_fields.specs.FieldReading.{long_in}
use Rattle.record_fields.specs.Reading.{many_at}
use Rattle.record_fields.proofs.Loops.{goes_on, ends, is_done}
use Rattle.record_fields.proofs.reading.Reading.order.Goals as goal

pub returns-in_err-entry : goal.returns-in_err-entry
returns-in_err-entry c =
    let p = err_from_is_err_and c.from_residual.result c.from_residual.ensures.1 in
    rw (p.1, p.2) (ends (long_in 1 4294967295) c.in_err-entry.field-0.0 c.order.order c.args.count c.order.counter c.order.self (many_at (long_in 1 4294967295) c.args.count c.args.self.now) c.order-test.true c.in_err-entry.ensures c.order.invariant)

pub order-preserved : goal.order-preserved
order-preserved c = rw c.in_ok-push.ensures.ok (goes_on (long_in 1 4294967295) c.order.order c.args.count c.order.counter c.order.self c.in_ok-entry.entry c.entry.new.self (many_at (long_in 1 4294967295) c.args.count c.args.self.now) c.order-test.true c.in_ok-entry.ensures c.order.invariant)

pub returns : goal.returns
returns c = is_done (long_in 1 4294967295) c.order.order c.args.count c.order.counter c.order.self (many_at (long_in 1 4294967295) c.args.count c.args.self.now) c.order-test.false c.order.invariant
