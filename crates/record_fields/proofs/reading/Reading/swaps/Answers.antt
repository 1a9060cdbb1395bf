use Rattle.std.proofs.lemmas.Result.{err_from_is_err_and}
use Rattle.record_fields.specs.ListReading.{swap_at}
use Rattle.record_fields.specs.Reading.{many_at}
use Rattle.record_fields.proofs.Loops.{goes_on, ends, is_done}
use Rattle.record_fields.proofs.reading.Reading.swaps.Goals as goal

pub returns-in_err-swap : goal.returns-in_err-swap
returns-in_err-swap c =
    let p = err_from_is_err_and c.from_residual.result c.from_residual.ensures.1 in
    rw (p.1, p.2) (ends swap_at c.in_err-swap.field-0.0 c.swaps.swaps c.args.count c.swaps.counter c.swaps.self (many_at swap_at c.args.count c.args.self.now) c.swaps-test.true c.in_err-swap.ensures c.swaps.invariant)

pub swaps-preserved : goal.swaps-preserved
swaps-preserved c = rw c.in_ok-push.ensures.ok (goes_on swap_at c.swaps.swaps c.args.count c.swaps.counter c.swaps.self c.in_ok-swap.swap c.swap.new.self (many_at swap_at c.args.count c.args.self.now) c.swaps-test.true c.in_ok-swap.ensures c.swaps.invariant)

pub returns : goal.returns
returns c = is_done swap_at c.swaps.swaps c.args.count c.swaps.counter c.swaps.self (many_at swap_at c.args.count c.args.self.now) c.swaps-test.false c.swaps.invariant
