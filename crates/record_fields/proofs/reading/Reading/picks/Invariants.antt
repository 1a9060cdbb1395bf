use Rattle.record_fields.specs.ListReading.{pick_at}
use Rattle.record_fields.specs.Reading.{many_at}
use Rattle.record_fields.proofs.Loops.{Fills}
use Rattle.record_fields.proofs.reading.Reading.picks.Given as goal

abbrev pub invariant-loop-place : goal.invariant-loop-place
invariant-loop-place l = Fills pick_at l.picks 15 l.place l.self (many_at pick_at 15 l.fn.self)
