use Rattle.lawful_books.proofs.Formed.{teams_are_fit, teams_have_shape}
use Rattle.lawful_books.proofs.teams.teams_have_shape.Goals as goal

pub returns-clause-shape : goal.returns-clause-shape
returns-clause-shape c = teams_have_shape

pub returns-clause-fit : goal.returns-clause-fit
returns-clause-fit c = teams_are_fit
