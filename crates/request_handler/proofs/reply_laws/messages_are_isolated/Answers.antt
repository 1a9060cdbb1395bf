use Rattle.request_handler.proofs.IsolationFacts.{messages_isolated}
use Rattle.request_handler.proofs.reply_laws.messages_are_isolated.Goals as goal

pub returns : goal.returns
returns c = messages_isolated c.answers_are_isolated.ensures
