use Rattle.rule_book.proofs.AgreeFacts.{rounds_agree, winners_agree}
use Rattle.rule_book.proofs.laws.winners_agree.Goals as goal

pub returns-clause-winners : goal.returns-clause-winners
returns-clause-winners c = winners_agree

pub returns-clause-rounds : goal.returns-clause-rounds
returns-clause-rounds c = rounds_agree
