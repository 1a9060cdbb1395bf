-- The cells of a season, as contracts see them.
use Rattle.std.specs.Prelude.{List, Option}
use Rattle.rescore_graph.specs.declared.cells.Slot.{Slot}
use Rattle.rescore_graph.specs.States.{State, look, values_in}
use Rattle.season_nodes.specs.declared.nodes.Node.{Node}
use Rattle.season_nodes.specs.declared.nodes.Value.{Value}
use Rattle.season_nodes.specs.NodeOrder.{node_cmp}

-- the cells
abbrev pub SeasonRows : Type 0
SeasonRows = List (Node × Slot Value)

-- what they hold of each node
abbrev pub held : SeasonRows → State Node Value
held cells = look node_cmp cells

-- the values that they hold
abbrev pub held_values : SeasonRows → Node → Option Value
held_values cells = values_in (held cells)
