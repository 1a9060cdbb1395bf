use Rattle.std.proofs.Common.{◌≡◌, map, take}
use Rattle.season_nodes.specs.declared.nodes.Node.TheVariants as node
use Rattle.season_rules.proofs.rules.gameweek_dependents.Given as goal

abbrev pub invariant-loop-entry : goal.invariant-loop-entry
invariant-loop-entry l = l.found.items ≡ map (λ e. node.TeamGw e l.gameweek) (take l.entry-index l.holders)
