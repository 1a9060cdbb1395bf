use Rattle.rule_book.proofs.UpToFacts.{up_to_tells_all}
use Rattle.rule_book.proofs.laws.up_to_tells_all.Goals as goal

pub returns : goal.returns
returns c = up_to_tells_all
