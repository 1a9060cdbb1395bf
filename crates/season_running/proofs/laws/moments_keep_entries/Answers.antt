use Rattle.season_running.proofs.MoneyFacts.{moments_keep}
use Rattle.season_running.proofs.laws.moments_keep_entries.Goals as goal

pub returns : goal.returns
returns c = moments_keep
