use Rattle.rule_book.proofs.UpToFacts.{later_events_agree}
use Rattle.rule_book.proofs.laws.later_events_agree.Goals as goal

pub returns : goal.returns
returns c = later_events_agree
