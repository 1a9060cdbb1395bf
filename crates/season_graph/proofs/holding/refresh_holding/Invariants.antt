use Rattle.season_graph.specs.Followed.{Refreshes}
use Rattle.season_graph.specs.Touched.{holding_nodes}
use Rattle.season_nodes.specs.IndexFacts.{holders_in}
use Rattle.season_graph.proofs.holding.refresh_holding.Given as goal

abbrev pub invariant-loop-number : goal.invariant-loop-number
invariant-loop-number l = Refreshes l.books (holding_nodes (holders_in l.index) l.player l.number) l.fn.cells l.cells
