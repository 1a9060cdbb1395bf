use Rattle.leagues_and_cups.proofs.CupTests.{unbroken_cup}
use Rattle.leagues_and_cups.proofs.RoundFacts.{shape_of_cup}
use Rattle.leagues_and_cups.proofs.cup_laws.unbroken_cups_have_shape.Goals as goal

pub returns : goal.returns
returns c = λ b gameweeks locked none. shape_of_cup b gameweeks (unbroken_cup b gameweeks locked none)
