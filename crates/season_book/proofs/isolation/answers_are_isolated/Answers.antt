use Rattle.season_book.proofs.ReplyFacts.{answers_are_isolated}
use Rattle.season_book.proofs.isolation.answers_are_isolated.Goals as goal

pub returns : goal.returns
returns c = answers_are_isolated
