use Rattle.season_entries.proofs.Stay.{facts_leave_entries}
use Rattle.season_entries.proofs.laws.facts_leave_entries.Goals as goal

pub returns : goal.returns
returns c = facts_leave_entries
