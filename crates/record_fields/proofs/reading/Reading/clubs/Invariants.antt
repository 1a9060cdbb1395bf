use Rattle.std.proofs.Common.{◌≡◌, ◌-◌}
use Rattle.record_fields.specs.ListReading.{club_row_at}
use Rattle.record_fields.specs.Reading.{many_at}
use Rattle.record_fields.proofs.Loops.{with_front}
use Rattle.record_fields.proofs.reading.Reading.clubs.Given as goal

abbrev pub invariant-clubs : goal.invariant-clubs
invariant-clubs l = with_front l.clubs (many_at club_row_at (l.count - l.counter) l.self) ≡ many_at club_row_at l.count l.fn.self
