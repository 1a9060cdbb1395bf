use Rattle.season_entries.proofs.Stay.{moments_leave_entries}
use Rattle.season_entries.proofs.laws.moments_leave_entries.Goals as goal

pub returns : goal.returns
returns c = moments_leave_entries
