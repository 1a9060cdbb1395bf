use Rattle.std.proofs.Common.{◌≡◌, map}
use Rattle.std.specs.List.{filter, range_with_len}
use Rattle.season_nodes.specs.BookFacts.{facts_of}
use Rattle.season_nodes.specs.Dependents.{is_average}
use Rattle.season_nodes.specs.Season.{opponent_in}
use Rattle.season_nodes.specs.declared.nodes.Node.TheVariants as node
use Rattle.season_rules.proofs.rounds.average_dependents.Given as goal

abbrev pub invariant-loop-place : goal.invariant-loop-place
invariant-loop-place l =
    l.found.items ≡ map (node.Match l.league l.gameweek) (filter (λ i. is_average (opponent_in (facts_of l.books) l.league l.gameweek i)) (range_with_len 0 l.place))
