use Rattle.season_running.proofs.MoneyFacts.{rows_tell_all}
use Rattle.season_running.proofs.laws.rows_tell_histories.Goals as goal

pub returns : goal.returns
returns c = rows_tell_all
