use Rattle.request_handler.proofs.OnceFacts.{messages_act_once}
use Rattle.request_handler.proofs.reply_laws.messages_act_once.Goals as goal

pub returns : goal.returns
returns c = messages_act_once c.commands_act_once.ensures
