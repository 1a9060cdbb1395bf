use Rattle.season_entries.proofs.Amended.{amended_stay}
use Rattle.season_entries.proofs.players.amendments_leave_entries.Goals as goal

pub returns : goal.returns
returns c = amended_stay
