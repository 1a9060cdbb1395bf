use Rattle.season_book.proofs.OnceFacts.{commands_act_once}
use Rattle.season_book.proofs.laws.commands_act_once.Goals as goal

pub returns : goal.returns
returns c = commands_act_once
