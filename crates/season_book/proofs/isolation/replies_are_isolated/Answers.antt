use Rattle.season_book.proofs.ReplyFacts.{replies_are_isolated}
use Rattle.season_book.proofs.isolation.replies_are_isolated.Goals as goal

pub returns : goal.returns
returns c = replies_are_isolated
