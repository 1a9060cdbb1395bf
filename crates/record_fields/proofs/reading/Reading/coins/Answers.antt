use Rattle.std.proofs.lemmas.Result.{err_from_is_err_and}
use Rattle.record_fields.specs.Reading.{byte_at, many_at}
use Rattle.record_fields.proofs.Loops.{goes_on, ends, is_done}
use Rattle.record_fields.proofs.reading.Reading.coins.Goals as goal

pub returns-in_err-coin : goal.returns-in_err-coin
returns-in_err-coin c =
    let p = err_from_is_err_and c.from_residual.result c.from_residual.ensures.1 in
    rw (p.1, p.2) (ends byte_at c.in_err-coin.field-0.0 c.coins.coins c.args.count c.coins.counter c.coins.self (many_at byte_at c.args.count c.args.self.now) c.coins-test.true c.in_err-coin.ensures c.coins.invariant)

pub coins-preserved : goal.coins-preserved
coins-preserved c = rw c.in_ok-push.ensures.ok (goes_on byte_at c.coins.coins c.args.count c.coins.counter c.coins.self c.in_ok-coin.coin c.u8.new.self (many_at byte_at c.args.count c.args.self.now) c.coins-test.true c.in_ok-coin.ensures c.coins.invariant)

pub returns : goal.returns
returns c = is_done byte_at c.coins.coins c.args.count c.coins.counter c.coins.self (many_at byte_at c.args.count c.args.self.now) c.coins-test.false c.coins.invariant
