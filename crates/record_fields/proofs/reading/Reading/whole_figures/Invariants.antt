use Rattle.record_fields.specs.FieldReading.{whole_in}
use Rattle.record_fields.specs.Reading.{many_at}
use Rattle.record_fields.proofs.Loops.{Fills}
use Rattle.record_fields.proofs.reading.Reading.whole_figures.Given as goal

abbrev pub invariant-loop-place : goal.invariant-loop-place
invariant-loop-place l = Fills (whole_in 0 65535) l.figures 28 l.place l.self (many_at (whole_in 0 65535) 28 l.fn.self)
