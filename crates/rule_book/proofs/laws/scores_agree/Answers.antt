use Rattle.rule_book.proofs.AgreeFacts.{scores_agree}
use Rattle.rule_book.proofs.laws.scores_agree.Goals as goal

pub returns : goal.returns
returns c = scores_agree
