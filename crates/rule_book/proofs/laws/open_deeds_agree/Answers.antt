use Rattle.rule_book.proofs.UpToFacts.{open_deeds_agree}
use Rattle.rule_book.proofs.laws.open_deeds_agree.Goals as goal

pub returns : goal.returns
returns c = open_deeds_agree
