use Rattle.season_ledger.proofs.Season as season
use Rattle.season_ledger.proofs.entry.rows_tell.Goals as goal

pub returns : goal.returns
returns c = season.rows_tell
