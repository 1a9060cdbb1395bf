use Rattle.season_nodes.proofs.RowFacts.{matches_are_told, rows_are_told}
use Rattle.season_nodes.proofs.laws.rows_are_told.Goals as goal

pub returns-clause-matches : goal.returns-clause-matches
returns-clause-matches c = matches_are_told

pub returns-clause-rows : goal.returns-clause-rows
returns-clause-rows c = rows_are_told
