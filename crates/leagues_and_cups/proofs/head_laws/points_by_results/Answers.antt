use Rattle.leagues_and_cups.proofs.MatchLemmas.{results_add_up, points_add_up}
use Rattle.leagues_and_cups.proofs.head_laws.points_by_results.Goals as goal

pub returns-clause-results : goal.returns-clause-results
returns-clause-results c = results_add_up

pub returns-clause-points : goal.returns-clause-points
returns-clause-points c = points_add_up
