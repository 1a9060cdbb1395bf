use Rattle.season_records.proofs.Kept.{locks_keep_records, no_lock_leaves_book}
use Rattle.season_records.proofs.laws.locks_keep_records.Goals as goal

pub returns-clause-keep : goal.returns-clause-keep
returns-clause-keep c = locks_keep_records

pub returns-clause-none : goal.returns-clause-none
returns-clause-none c = no_lock_leaves_book
