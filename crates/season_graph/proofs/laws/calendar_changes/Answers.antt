use Rattle.season_graph.proofs.PlaceChanges.{deadline_moves, fixture_comes, fixture_moves, moment_passes, opponents_change}
use Rattle.season_graph.proofs.laws.calendar_changes.Goals as goal

pub returns-clause-moved : goal.returns-clause-moved
returns-clause-moved c = fixture_moves

pub returns-clause-added : goal.returns-clause-added
returns-clause-added c = fixture_comes

pub returns-clause-passed : goal.returns-clause-passed
returns-clause-passed c = moment_passes

pub returns-clause-deadline : goal.returns-clause-deadline
returns-clause-deadline c = deadline_moves

pub returns-clause-opponents : goal.returns-clause-opponents
returns-clause-opponents c = opponents_change
