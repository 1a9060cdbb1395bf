use Rattle.std.proofs.Common.{ℕ, List}
use Rattle.record_fields.specs.FieldReading.{player_at}
use Rattle.record_fields.specs.ListReading.{fifteen_at, list_at}
use Rattle.record_fields.proofs.Loops.{of_other_length}
use Rattle.record_fields.proofs.reading.Reading.fifteen.Goals as goal

pub returns-then-branch-ne15 : goal.returns-then-branch-ne15
unfolding fifteen_at list_at
returns-then-branch-ne15 c = rw c.in_ok-u16.ensures (of_other_length player_at (λ (players : List ℕ). players) 15 c.in_ok-u16.field-0 c.u16.new.self c.if-branch-ne15.true)
