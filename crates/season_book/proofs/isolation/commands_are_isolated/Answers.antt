use Rattle.season_book.proofs.CommandFacts.{commands_are_isolated}
use Rattle.season_book.proofs.isolation.commands_are_isolated.Goals as goal

pub returns : goal.returns
returns c = commands_are_isolated
