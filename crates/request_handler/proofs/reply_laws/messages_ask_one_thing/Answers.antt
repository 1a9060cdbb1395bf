use Rattle.request_handler.proofs.OnceFacts.{one_asked}
use Rattle.request_handler.proofs.reply_laws.messages_ask_one_thing.Goals as goal

pub returns : goal.returns
returns c = one_asked c.targets_ask_one_thing.ensures
