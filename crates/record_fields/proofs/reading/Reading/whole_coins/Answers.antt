use Rattle.std.proofs.lemmas.Result.{err_from_is_err_and}
use Rattle.record_fields.specs.FieldReading.{whole_in}
use Rattle.record_fields.specs.Reading.{many_at}
use Rattle.record_fields.proofs.Loops.{goes_on, ends, is_done}
use Rattle.record_fields.proofs.reading.Reading.whole_coins.Goals as goal

pub returns-in_err-coin : goal.returns-in_err-coin
returns-in_err-coin c =
    let p = err_from_is_err_and c.from_residual.result c.from_residual.ensures.1 in
    rw (p.1, p.2) (ends (whole_in 0 255) c.in_err-coin.field-0.0 c.whole_coins.whole_coins c.args.count c.whole_coins.counter c.whole_coins.self (many_at (whole_in 0 255) c.args.count c.args.self.now) c.whole_coins-test.true c.in_err-coin.ensures c.whole_coins.invariant)

pub whole_coins-preserved : goal.whole_coins-preserved
whole_coins-preserved c = rw c.in_ok-push.ensures.ok (goes_on (whole_in 0 255) c.whole_coins.whole_coins c.args.count c.whole_coins.counter c.whole_coins.self c.in_ok-coin.coin c.whole_u8.new.self (many_at (whole_in 0 255) c.args.count c.args.self.now) c.whole_coins-test.true c.in_ok-coin.ensures c.whole_coins.invariant)

pub returns : goal.returns
returns c = is_done (whole_in 0 255) c.whole_coins.whole_coins c.args.count c.whole_coins.counter c.whole_coins.self (many_at (whole_in 0 255) c.args.count c.args.self.now) c.whole_coins-test.false c.whole_coins.invariant
