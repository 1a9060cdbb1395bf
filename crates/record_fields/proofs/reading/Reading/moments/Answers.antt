use Rattle.std.proofs.lemmas.Result.{err_from_is_err_and}
use Rattle.record_fields.specs.FieldReading.{moment_at}
use Rattle.record_fields.specs.Reading.{many_at}
use Rattle.record_fields.proofs.Loops.{goes_on, ends, is_done}
use Rattle.record_fields.proofs.reading.Reading.moments.Goals as goal

pub returns-in_err-moment : goal.returns-in_err-moment
returns-in_err-moment c =
    let p = err_from_is_err_and c.from_residual.result c.from_residual.ensures.1 in
    rw (p.1, p.2) (ends moment_at c.in_err-moment.field-0.0 c.moments.moments c.args.count c.moments.counter c.moments.self (many_at moment_at c.args.count c.args.self.now) c.moments-test.true c.in_err-moment.ensures c.moments.invariant)

pub moments-preserved : goal.moments-preserved
moments-preserved c = rw c.in_ok-push.ensures.ok (goes_on moment_at c.moments.moments c.args.count c.moments.counter c.moments.self c.in_ok-moment.moment c.moment.new.self (many_at moment_at c.args.count c.args.self.now) c.moments-test.true c.in_ok-moment.ensures c.moments.invariant)

pub returns : goal.returns
returns c = is_done moment_at c.moments.moments c.args.count c.moments.counter c.moments.self (many_at moment_at c.args.count c.args.self.now) c.moments-test.false c.moments.invariant
