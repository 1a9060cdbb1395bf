use Rattle.record_changes.proofs.Read.{records_are_read, restored_rows_stand}
use Rattle.record_changes.proofs.RowsStand.{rows_in_order_stand}
use Rattle.record_changes.proofs.rows.rows_in_order_stand.Goals as goal

pub returns-clause-stand : goal.returns-clause-stand
returns-clause-stand c = rows_in_order_stand

pub returns-clause-read : goal.returns-clause-read
returns-clause-read c = records_are_read

pub returns-clause-restored : goal.returns-clause-restored
returns-clause-restored c = restored_rows_stand
