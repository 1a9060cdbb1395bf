use Rattle.std.proofs.Common.{◌⊎◌, ℕ, drop}
use Rattle.std.specs.Map.{keys_of}
use Rattle.rule_book.specs.MatchFacts.{lines_of, players_in}
use Rattle.rescore_graph.specs.Graph.{Among}
use Rattle.season_nodes.specs.Season.{Rising}
use Rattle.season_cells.proofs.kept.rising.Given as goal

-- of the fixtures that have facts, but for those that are left
abbrev pub invariant-loop-fixture : goal.invariant-loop-fixture
invariant-loop-fixture l = (f : ℕ) → Among (keys_of l.matches) f → Among (drop l.fixture-index (keys_of l.matches)) f ⊎ Rising (players_in (lines_of l.matches f))
