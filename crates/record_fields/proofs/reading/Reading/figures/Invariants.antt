use Rattle.std.specs.Int.{w16}
use Rattle.record_fields.specs.Reading.{number_at, many_at}
use Rattle.record_fields.proofs.Loops.{Fills}
use Rattle.record_fields.proofs.reading.Reading.figures.Given as goal

abbrev pub invariant-loop-place : goal.invariant-loop-place
invariant-loop-place l = Fills (number_at w16) l.figures 28 l.place l.self (many_at (number_at w16) 28 l.fn.self)
