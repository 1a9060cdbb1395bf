use Rattle.std.proofs.Common.{take}
use Rattle.std.specs.List.{flat_map}
use Rattle.season_nodes.specs.BookFacts.{facts_of}
use Rattle.season_graph.specs.Followed.{ChosenRefreshed}
use Rattle.season_graph.specs.Parts.{depth, nodes_of, parts_of}
use Rattle.season_graph.proofs.parts.+refresh.Given as goal

abbrev pub decreases-refresh : goal.decreases-refresh
decreases-refresh l = depth l.part.now

abbrev pub invariant-loop-place : goal.invariant-loop-place
invariant-loop-place l = ChosenRefreshed l.books l.all (flat_map (nodes_of (facts_of l.books)) (take l.place (parts_of (facts_of l.books) l.part))) l.fn.cells l.cells
