use Rattle.leagues_and_cups.proofs.WinnerLemmas.{tie_of_winners}
use Rattle.leagues_and_cups.proofs.cup_laws.winners_meet.Goals as goal

pub returns-clause-tie : goal.returns-clause-tie
returns-clause-tie c = tie_of_winners
