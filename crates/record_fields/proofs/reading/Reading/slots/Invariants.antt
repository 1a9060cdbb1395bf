use Rattle.std.proofs.Common.{◌≡◌, ◌-◌}
use Rattle.std.specs.Int.{w32}
use Rattle.record_fields.specs.Reading.{number_at, many_at}
use Rattle.record_fields.proofs.Loops.{with_front}
use Rattle.record_fields.proofs.reading.Reading.slots.Given as goal

abbrev pub invariant-slots : goal.invariant-slots
invariant-slots l = with_front l.slots (many_at (number_at w32) (l.count - l.counter) l.self) ≡ many_at (number_at w32) l.count l.fn.self
