use Rattle.std.proofs.Common.{is_some, take}
use Rattle.rescore_graph.specs.Graph.{Among}
use Rattle.rescore_graph.specs.States.{look}
use Rattle.season_nodes.specs.BookFacts.{facts_of}
use Rattle.season_graph.specs.Refreshed.{Refreshed}
use Rattle.season_nodes.specs.Season.{is_live}
use Rattle.season_graph.specs.Touched.{lines_nodes}
use Rattle.season_nodes.specs.declared.nodes.Node.TheVariants as node
use Rattle.season_nodes.specs.NodeOrder.{node_cmp}
use Rattle.season_graph.proofs.changes.refresh_lines.Given as goal

abbrev pub invariant-loop-player : goal.invariant-loop-player
invariant-loop-player l = Refreshed (is_live (facts_of l.books)) (Among (lines_nodes (facts_of l.books) (λ p. is_some (look node_cmp l.fn.cells (node.Line l.fixture p))) l.fixture (take l.player-index l.players))) (look node_cmp l.fn.cells) (look node_cmp l.cells)
