use Rattle.std.proofs.Common.{◌≡◌, ◌&&◌, nat_le, map, take}
use Rattle.std.specs.List.{filter}
use Rattle.season_nodes.specs.declared.nodes.Node.TheVariants as node
use Rattle.season_rules.proofs.rules.total_dependents.Given as goal

abbrev pub invariant-loop-start : goal.invariant-loop-start
invariant-loop-start l = l.found.items ≡ map (node.Total l.entry) (filter (λ s. nat_le 1 s && nat_le s l.gameweek) (take l.start-index l.start-items))
