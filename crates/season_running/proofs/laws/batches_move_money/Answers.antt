use Rattle.season_running.proofs.MoneyFacts.{batches_move}
use Rattle.season_running.proofs.laws.batches_move_money.Goals as goal

pub returns : goal.returns
returns c = batches_move
