use Rattle.season_book.proofs.BothWays.{agrees_both_ways}
use Rattle.season_book.proofs.isolation.agreeing_is_an_equivalence.Goals as goal

pub returns : goal.returns
returns c = agrees_both_ways
