use Rattle.std.proofs.lemmas.Result.{err_from_is_err_and}
use Rattle.record_fields.specs.FieldReading.{id_at}
use Rattle.record_fields.specs.Reading.{many_at}
use Rattle.record_fields.proofs.Loops.{goes_on, ends, is_done}
use Rattle.record_fields.proofs.reading.Reading.whole_entries.Goals as goal

pub returns-in_err-entry : goal.returns-in_err-entry
returns-in_err-entry c =
    let p = err_from_is_err_and c.from_residual.result c.from_residual.ensures.1 in
    rw (p.1, p.2) (ends id_at c.in_err-entry.field-0.0 c.whole_entries.whole_entries c.args.count c.whole_entries.counter c.whole_entries.self (many_at id_at c.args.count c.args.self.now) c.whole_entries-test.true c.in_err-entry.ensures c.whole_entries.invariant)

pub whole_entries-preserved : goal.whole_entries-preserved
whole_entries-preserved c = rw c.in_ok-push.ensures.ok (goes_on id_at c.whole_entries.whole_entries c.args.count c.whole_entries.counter c.whole_entries.self c.in_ok-entry.entry c.whole_entry.new.self (many_at id_at c.args.count c.args.self.now) c.whole_entries-test.true c.in_ok-entry.ensures c.whole_entries.invariant)

pub returns : goal.returns
returns c = is_done id_at c.whole_entries.whole_entries c.args.count c.whole_entries.counter c.whole_entries.self (many_at id_at c.args.count c.args.self.now) c.whole_entries-test.false c.whole_entries.invariant
