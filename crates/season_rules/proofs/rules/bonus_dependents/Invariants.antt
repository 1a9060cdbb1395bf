use Rattle.std.proofs.Common.{◌≡◌, take}
use Rattle.std.specs.List.{flat_map}
use Rattle.season_nodes.specs.BookFacts.{facts_of}
use Rattle.season_nodes.specs.Dependents.{counting}
use Rattle.season_rules.proofs.rules.bonus_dependents.Given as goal

abbrev pub invariant-loop-player : goal.invariant-loop-player
invariant-loop-player l = l.found.items ≡ flat_map (counting (facts_of l.books) l.fixture) (take l.player-index l.players)
