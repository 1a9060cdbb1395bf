use Rattle.lawful_books.proofs.Fit.{teams_told_are_fit}
use Rattle.lawful_books.proofs.Sequel.{teams_told_go_on}
use Rattle.lawful_books.proofs.teams.told_teams_are_lawful.Goals as goal

pub returns-clause-fit : goal.returns-clause-fit
returns-clause-fit c = teams_told_are_fit

pub returns-clause-sequel : goal.returns-clause-sequel
returns-clause-sequel c = teams_told_go_on
