use Rattle.season_book.proofs.ViewFacts.{views_are_isolated}
use Rattle.season_book.proofs.isolation.views_are_isolated.Goals as goal

pub returns : goal.returns
returns c = views_are_isolated
