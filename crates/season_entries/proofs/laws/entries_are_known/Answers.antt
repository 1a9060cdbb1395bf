use Rattle.season_entries.proofs.KnownFacts.{entries_known}
use Rattle.season_entries.proofs.laws.entries_are_known.Goals as goal

pub returns : goal.returns
returns c = entries_known c.rows_tell.ensures
