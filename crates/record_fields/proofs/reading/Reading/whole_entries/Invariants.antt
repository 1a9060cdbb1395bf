use Rattle.std.proofs.Common.{◌≡◌, ◌-◌}
use Rattle.record_fields.specs.FieldReading.{id_at}
use Rattle.record_fields.specs.Reading.{many_at}
use Rattle.record_fields.proofs.Loops.{with_front}
use Rattle.record_fields.proofs.reading.Reading.whole_entries.Given as goal

abbrev pub invariant-whole_entries : goal.invariant-whole_entries
invariant-whole_entries l = with_front l.whole_entries (many_at id_at (l.count - l.counter) l.self) ≡ many_at id_at l.count l.fn.self
