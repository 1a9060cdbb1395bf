use Rattle.std.proofs.Common.{◌++◌, take}
use Rattle.std.specs.List.{flat_map}
use Rattle.rescore_graph.specs.Graph.{Among}
use Rattle.rescore_graph.specs.States.{look}
use Rattle.season_nodes.specs.BookFacts.{facts_of}
use Rattle.season_graph.specs.Refreshed.{Refreshed}
use Rattle.season_nodes.specs.Season.{is_live}
use Rattle.season_graph.specs.Touched.{gameweek_beside}
use Rattle.season_nodes.specs.NodeOrder.{node_cmp}
use Rattle.season_graph.proofs.changes.refresh_moved_players.Given as goal

abbrev pub invariant-loop-player : goal.invariant-loop-player
invariant-loop-player l = Refreshed (is_live (facts_of l.books)) (Among (flat_map (λ p. gameweek_beside p l.from ++ gameweek_beside p l.to) (take l.player-index l.player-items))) (look node_cmp l.fn.cells) (look node_cmp l.cells)
