use Rattle.std.proofs.Common.{◌≡◌, ◌-◌}
use Rattle.record_fields.specs.Reading.{byte_at, many_at}
use Rattle.record_fields.proofs.Loops.{with_front}
use Rattle.record_fields.proofs.reading.Reading.coins.Given as goal

abbrev pub invariant-coins : goal.invariant-coins
invariant-coins l = with_front l.coins (many_at byte_at (l.count - l.counter) l.self) ≡ many_at byte_at l.count l.fn.self
