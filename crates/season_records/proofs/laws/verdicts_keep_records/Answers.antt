use Rattle.season_records.proofs.Kept.{rests_keep_records, verdicts_keep_records}
use Rattle.season_records.proofs.laws.verdicts_keep_records.Goals as goal

pub returns-clause-keep : goal.returns-clause-keep
returns-clause-keep c = verdicts_keep_records

pub returns-clause-rest : goal.returns-clause-rest
returns-clause-rest c = rests_keep_records
