use Rattle.std.proofs.Common.{◌≡◌, ◌==◌, not, take}
use Rattle.std.specs.List.{filter, flat_map}
use Rattle.season_nodes.specs.BookFacts.{facts_of}
use Rattle.season_nodes.specs.Dependents.{counting, given}
use Rattle.season_rules.proofs.rules.bonus_affected.Given as goal

abbrev pub invariant-loop-player : goal.invariant-loop-player
invariant-loop-player l = l.found.items ≡ flat_map (counting (facts_of l.books) l.fixture) (filter (λ p. not (given l.old p == given l.new p)) (take l.player-index l.players))
