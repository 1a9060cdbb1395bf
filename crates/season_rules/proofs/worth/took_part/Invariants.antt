use Rattle.std.proofs.Common.{◌≡◌, ◌≤◌, ◌+◌, take}
use Rattle.rescore_graph.specs.States.{look, values_in}
use Rattle.season_nodes.specs.declared.nodes.Node.TheVariants as node
use Rattle.season_nodes.specs.Season.{took_part, worth_in}
use Rattle.season_nodes.specs.NodeOrder.{node_cmp}
use Rattle.season_rules.proofs.worth.took_part.Given as goal

abbrev pub invariant-loop-player : goal.invariant-loop-player
invariant-loop-player g l = record {
  table : l.table.items ≡ took_part (λ p. worth_in (values_in (look node_cmp l.cells) (node.Line l.fixture p))) (take l.player-index l.players);
  cost : l.steps ≤ l.fn.steps + l.player-index;
}
