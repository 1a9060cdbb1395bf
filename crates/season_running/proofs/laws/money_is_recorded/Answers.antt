use Rattle.season_running.proofs.MoneyFacts.{money_recorded}
use Rattle.season_running.proofs.laws.money_is_recorded.Goals as goal

pub returns : goal.returns
returns c = money_recorded
