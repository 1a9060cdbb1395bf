use Rattle.std.proofs.Common.{◌≡◌, ◌≤◌, drop, map}
use Rattle.json.specs.Tape.{node_token}
use Rattle.json_tree.proofs.WalkLemmas.{passes}
use Rattle.json_tree.proofs.parser.is_readable.Given as goal

-- what is left decides
abbrev pub invariant-loop-node : goal.invariant-loop-node
invariant-loop-node l =
    (passes l.open (drop l.node-index (map node_token l.nodes)) ≡ passes 0 (map node_token l.nodes)) × (l.open ≤ 127)
