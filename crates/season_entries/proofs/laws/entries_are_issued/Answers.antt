use Rattle.season_entries.proofs.Issued.{entries_issued}
use Rattle.season_entries.proofs.laws.entries_are_issued.Goals as goal

pub returns : goal.returns
returns c = entries_issued
