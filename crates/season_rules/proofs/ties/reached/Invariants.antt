use Rattle.std.proofs.Common.{◌≡◌, ◌+◌, ◌^◌, ◌++◌, drop, map}
use Rattle.season_nodes.specs.declared.nodes.Node.TheVariants as node
use Rattle.season_rules.proofs.TieFacts.{ties_from}
use Rattle.season_rules.proofs.ties.reached.Given as goal

abbrev pub invariant-loop-slot : goal.invariant-loop-slot
invariant-loop-slot l =
    l.found.items ++ map (node.Tie l.cup l.round) (ties_from (2 ^ (l.round + 1)) l.next (drop l.slot-index l.slot-items)) ≡ map (node.Tie l.cup l.round) (ties_from (2 ^ (l.round + 1)) 0 l.slot-items)
