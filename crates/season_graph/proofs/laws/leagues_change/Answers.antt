use Rattle.season_graph.proofs.LeagueChanges.{league_is_drawn, league_is_joined, league_is_made}
use Rattle.season_graph.proofs.laws.leagues_change.Goals as goal

pub returns-clause-made : goal.returns-clause-made
returns-clause-made c = league_is_made

pub returns-clause-joined : goal.returns-clause-joined
returns-clause-joined c = league_is_joined

pub returns-clause-drawn : goal.returns-clause-drawn
returns-clause-drawn c = league_is_drawn
