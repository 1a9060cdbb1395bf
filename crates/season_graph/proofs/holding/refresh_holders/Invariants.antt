use Rattle.std.proofs.Common.{take}
use Rattle.season_graph.specs.Followed.{Refreshes}
use Rattle.season_nodes.specs.Dependents.{gameweek_dependents}
use Rattle.season_graph.proofs.holding.refresh_holders.Given as goal

abbrev pub invariant-loop-entry : goal.invariant-loop-entry
invariant-loop-entry l = Refreshes l.books (gameweek_dependents (take l.entry-index l.entry-items) l.gameweek) l.fn.cells l.cells
