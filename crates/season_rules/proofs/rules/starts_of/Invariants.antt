use Rattle.std.proofs.Common.{◌≡◌, ◌∷◌, take}
use Rattle.std.specs.List.{flat_map}
use Rattle.season_nodes.specs.BookFacts.{facts_of}
use Rattle.season_nodes.specs.Season.{classic_starts}
use Rattle.season_rules.proofs.rules.starts_of.Given as goal

abbrev pub invariant-loop-league : goal.invariant-loop-league
invariant-loop-league l = l.starts.items ≡ 1 ∷ flat_map (classic_starts (facts_of l.books).leagues) (take l.league-index l.league-items)
