use Rattle.season_book.proofs.OtherFacts.{others_are_unseen}
use Rattle.season_book.proofs.isolation.others_are_unseen.Goals as goal

pub returns : goal.returns
returns c = others_are_unseen
