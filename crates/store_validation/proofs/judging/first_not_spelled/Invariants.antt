use Rattle.stored_records.proofs.Loops.{FailBefore}
use Rattle.std.proofs.Common.{not}
use Rattle.store_validation.specs.Lawful.{is_spelled}
use Rattle.store_validation.proofs.judging.first_not_spelled.Given as goal

abbrev pub invariant-loop-row : goal.invariant-loop-row
invariant-loop-row l = FailBefore (λ row. not (is_spelled row)) l.rows l.row-index
