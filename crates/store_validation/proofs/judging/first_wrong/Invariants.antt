use Rattle.fpl_base.specs.Keeping.{map_of}
use Rattle.stored_records.proofs.Loops.{FailBefore}
use Rattle.store_validation.specs.Lawful.{is_wrong}
use Rattle.store_validation.specs.TransferRules.{IsKnown}
use Rattle.store_validation.proofs.judging.first_wrong.Given as goal

abbrev pub invariant-loop-row : goal.invariant-loop-row
invariant-loop-row l = FailBefore (is_wrong l.stored) l.row-items l.row-index × IsKnown (map_of l.stored) l.known
