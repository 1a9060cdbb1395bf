use Rattle.season_entries.proofs.Earlier.{earlier_rows_tell}
use Rattle.season_entries.proofs.laws.earlier_rows_tell.Goals as goal

pub returns : goal.returns
returns c = earlier_rows_tell
