use Rattle.record_changes.proofs.RowsTold.{items_are_told, rows_have_records, rows_tell_records}
use Rattle.record_changes.proofs.rows.rows_tell_records.Goals as goal

pub returns-clause-tell : goal.returns-clause-tell
returns-clause-tell c = rows_tell_records

pub returns-clause-records : goal.returns-clause-records
returns-clause-records c = rows_have_records

pub returns-clause-items : goal.returns-clause-items
returns-clause-items c = items_are_told
