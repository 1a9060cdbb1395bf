use Rattle.season_graph.proofs.PlaceChanges.{club_changes, gone_changes, player_comes, position_changes, price_changes}
use Rattle.season_graph.proofs.laws.players_change.Goals as goal

pub returns-clause-added : goal.returns-clause-added
returns-clause-added c = player_comes

pub returns-clause-price : goal.returns-clause-price
returns-clause-price c = price_changes

pub returns-clause-club : goal.returns-clause-club
returns-clause-club c = club_changes

pub returns-clause-gone : goal.returns-clause-gone
returns-clause-gone c = gone_changes

pub returns-clause-position : goal.returns-clause-position
returns-clause-position c = position_changes
