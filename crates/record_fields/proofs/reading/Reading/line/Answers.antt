use Rattle.std.proofs.Common.{ℕ, List}
use Rattle.rule_book.specs.declared.line.Line.{Line}
use Rattle.record_fields.specs.FieldReading.{whole_in}
use Rattle.record_fields.specs.ListReading.{line_at, list_at}
use Rattle.record_fields.proofs.Loops.{of_other_length}
use Rattle.record_fields.proofs.reading.Reading.line.Goals as goal

abbrev the_line : List ℕ → Line
the_line figures = record { figures = figures }

pub returns-then-branch-ne28 : goal.returns-then-branch-ne28
unfolding line_at list_at
returns-then-branch-ne28 c = rw c.in_ok-u16.ensures (of_other_length (whole_in 0 65535) (λ (figures : List ℕ). the_line figures) 28 c.in_ok-u16.field-0 c.u16.new.self c.if-branch-ne28.true)
