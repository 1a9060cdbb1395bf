use Rattle.record_fields.specs.FieldReading.{player_at}
use Rattle.record_fields.specs.Reading.{many_at}
use Rattle.record_fields.proofs.Loops.{Fills}
use Rattle.record_fields.proofs.reading.Reading.whole_players.Given as goal

abbrev pub invariant-loop-place : goal.invariant-loop-place
invariant-loop-place l = Fills player_at l.players 15 l.place l.self (many_at player_at 15 l.fn.self)
