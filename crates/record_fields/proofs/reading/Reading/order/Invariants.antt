use Rattle.std.proofs.Common.{◌≡◌, ◌-◌}
use Rattle.record_fields.specs.FieldReading.{long_in}
use Rattle.record_fields.specs.Reading.{many_at}
use Rattle.record_fields.proofs.Loops.{with_front}
use Rattle.record_fields.proofs.reading.Reading.order.Given as goal

abbrev pub invariant-order : goal.invariant-order
invariant-order l = with_front l.order (many_at (long_in 1 4294967295) (l.count - l.counter) l.self) ≡ many_at (long_in 1 4294967295) l.count l.fn.self
