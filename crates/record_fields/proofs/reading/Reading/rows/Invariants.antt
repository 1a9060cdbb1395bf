use Rattle.std.proofs.Common.{◌≡◌, ◌-◌}
use Rattle.record_fields.specs.ListReading.{row_at}
use Rattle.record_fields.specs.Reading.{many_at}
use Rattle.record_fields.proofs.Loops.{with_front}
use Rattle.record_fields.proofs.reading.Reading.rows.Given as goal

abbrev pub invariant-rows : goal.invariant-rows
invariant-rows l = with_front l.rows (many_at row_at (l.count - l.counter) l.self) ≡ many_at row_at l.count l.fn.self
