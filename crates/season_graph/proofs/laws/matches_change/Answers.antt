use Rattle.season_graph.proofs.MatchChanges.{line_is_dropped, line_is_put, mark_is_set, sheet_is_put}
use Rattle.season_graph.proofs.laws.matches_change.Goals as goal

pub returns-clause-put : goal.returns-clause-put
returns-clause-put c = line_is_put c.facts_are_maps.ensures.sheets c.facts_are_maps.ensures.lines

pub returns-clause-dropped : goal.returns-clause-dropped
returns-clause-dropped c = line_is_dropped c.facts_are_maps.ensures.sheets c.facts_are_maps.ensures.gone

pub returns-clause-marked : goal.returns-clause-marked
returns-clause-marked c = mark_is_set c.facts_are_maps.ensures.sheets

pub returns-clause-sheet : goal.returns-clause-sheet
returns-clause-sheet c = sheet_is_put c.facts_are_maps.ensures.sheets c.facts_are_maps.ensures.sheet
