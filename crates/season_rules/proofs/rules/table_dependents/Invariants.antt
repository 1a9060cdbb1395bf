use Rattle.std.proofs.Common.{◌≡◌, ◌++◌, take}
use Rattle.std.specs.List.{flat_map}
use Rattle.season_nodes.specs.BookFacts.{facts_of}
use Rattle.season_nodes.specs.Dependents.{round_dependents, total_dependents}
use Rattle.season_rules.proofs.rules.table_dependents.Given as goal

abbrev pub invariant-loop-league : goal.invariant-loop-league
invariant-loop-league l =
    l.found.items ≡ total_dependents (facts_of l.books) l.entry l.gameweek ++ flat_map (round_dependents (facts_of l.books) l.entry l.gameweek) (take l.league-index l.league-items)
