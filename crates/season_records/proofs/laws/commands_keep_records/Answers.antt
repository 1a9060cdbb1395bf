use Rattle.season_records.proofs.Kept.{commands_keep_records}
use Rattle.season_records.proofs.laws.commands_keep_records.Goals as goal

pub returns : goal.returns
returns c = commands_keep_records
