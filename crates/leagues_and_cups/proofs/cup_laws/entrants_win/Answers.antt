use Rattle.leagues_and_cups.proofs.WinnerLemmas.{entrant_wins}
use Rattle.leagues_and_cups.proofs.cup_laws.entrants_win.Goals as goal

pub returns : goal.returns
returns c = entrant_wins
