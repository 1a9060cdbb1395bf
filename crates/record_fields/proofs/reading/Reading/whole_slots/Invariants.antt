use Rattle.std.proofs.Common.{◌≡◌, ◌-◌}
use Rattle.record_fields.specs.FieldReading.{whole_in}
use Rattle.record_fields.specs.Reading.{many_at}
use Rattle.record_fields.proofs.Loops.{with_front}
use Rattle.record_fields.proofs.reading.Reading.whole_slots.Given as goal

abbrev pub invariant-whole_slots : goal.invariant-whole_slots
invariant-whole_slots l = with_front l.whole_slots (many_at (whole_in 0 4294967295) (l.count - l.counter) l.self) ≡ many_at (whole_in 0 4294967295) l.count l.fn.self
