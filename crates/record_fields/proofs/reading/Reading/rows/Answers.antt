use Rattle.std.proofs.lemmas.Result.{err_from_is_err_and}
use Rattle.record_fields.specs.ListReading.{row_at}
use Rattle.record_fields.specs.Reading.{many_at}
use Rattle.record_fields.proofs.Loops.{goes_on, ends, is_done}
use Rattle.record_fields.proofs.reading.Reading.rows.Goals as goal

pub returns-in_err-row : goal.returns-in_err-row
returns-in_err-row c =
    let p = err_from_is_err_and c.from_residual.result c.from_residual.ensures.1 in
    rw (p.1, p.2) (ends row_at c.in_err-row.field-0.0 c.rows.rows c.args.count c.rows.counter c.rows.self (many_at row_at c.args.count c.args.self.now) c.rows-test.true c.in_err-row.ensures c.rows.invariant)

pub rows-preserved : goal.rows-preserved
rows-preserved c = rw c.in_ok-push.ensures.ok (goes_on row_at c.rows.rows c.args.count c.rows.counter c.rows.self c.in_ok-row.row c.row.new.self (many_at row_at c.args.count c.args.self.now) c.rows-test.true c.in_ok-row.ensures c.rows.invariant)

pub returns : goal.returns
returns c = is_done row_at c.rows.rows c.args.count c.rows.counter c.rows.self (many_at row_at c.args.count c.args.self.now) c.rows-test.false c.rows.invariant
