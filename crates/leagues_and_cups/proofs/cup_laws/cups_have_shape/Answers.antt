use Rattle.leagues_and_cups.proofs.RoundFacts.{shape_of_cup}
use Rattle.leagues_and_cups.proofs.cup_laws.cups_have_shape.Goals as goal

pub returns : goal.returns
returns c = shape_of_cup
