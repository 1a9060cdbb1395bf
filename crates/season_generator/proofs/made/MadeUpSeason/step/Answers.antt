use Rattle.std.proofs.Common.{subst, sym}
use Rattle.season_book.specs.Commands.{IsCommand}
use Rattle.season_generator.proofs.MadeFacts.{place_lawful}
use Rattle.season_generator.proofs.made.MadeUpSeason.step.Goals as goal

pub returns-clause-lawful : goal.returns-clause-lawful
returns-clause-lawful c = subst IsCommand (sym c.in_ok-command.ensures.command) (place_lawful c.go_to.new.self.0 c.in-Some.place c.in-Some.ensures.range)
