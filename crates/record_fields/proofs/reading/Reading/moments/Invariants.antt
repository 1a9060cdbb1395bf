use Rattle.std.proofs.Common.{◌≡◌, ◌-◌}
use Rattle.record_fields.specs.FieldReading.{moment_at}
use Rattle.record_fields.specs.Reading.{many_at}
use Rattle.record_fields.proofs.Loops.{with_front}
use Rattle.record_fields.proofs.reading.Reading.moments.Given as goal

abbrev pub invariant-moments : goal.invariant-moments
invariant-moments l = with_front l.moments (many_at moment_at (l.count - l.counter) l.self) ≡ many_at moment_at l.count l.fn.self
