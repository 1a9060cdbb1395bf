use Rattle.std.proofs.Common.{◌≡◌, ◌-◌}
use Rattle.record_fields.specs.ListReading.{swap_at}
use Rattle.record_fields.specs.Reading.{many_at}
use Rattle.record_fields.proofs.Loops.{with_front}
use Rattle.record_fields.proofs.reading.Reading.swaps.Given as goal

abbrev pub invariant-swaps : goal.invariant-swaps
invariant-swaps l = with_front l.swaps (many_at swap_at (l.count - l.counter) l.self) ≡ many_at swap_at l.count l.fn.self
