use Rattle.std.proofs.Common.{◌≡◌, ◌-◌}
use Rattle.record_fields.specs.FieldReading.{whole_in}
use Rattle.record_fields.specs.Reading.{many_at}
use Rattle.record_fields.proofs.Loops.{with_front}
use Rattle.record_fields.proofs.reading.Reading.whole_coins.Given as goal

abbrev pub invariant-whole_coins : goal.invariant-whole_coins
invariant-whole_coins l = with_front l.whole_coins (many_at (whole_in 0 255) (l.count - l.counter) l.self) ≡ many_at (whole_in 0 255) l.count l.fn.self
