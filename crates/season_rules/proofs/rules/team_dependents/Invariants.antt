use Rattle.std.proofs.Common.{◌≡◌, ◌++◌}
use Rattle.std.specs.List.{flat_map, range_with_len}
use Rattle.season_nodes.specs.BookFacts.{facts_of}
use Rattle.season_nodes.specs.Dependents.{cup_dependents, table_dependents}
use Rattle.season_rules.proofs.rules.team_dependents.Given as goal

abbrev pub invariant-loop-number : goal.invariant-loop-number
invariant-loop-number l =
    l.found.items ≡ table_dependents (facts_of l.books) l.entry l.gameweek ++ flat_map (cup_dependents (facts_of l.books) l.entry l.gameweek) (range_with_len 1 l.number)
