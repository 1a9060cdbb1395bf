use Rattle.std.proofs.Common.{◌≡◌, ◌-◌, List, None, Some, drop, length, map}
use Rattle.std.specs.Prelude.{MatchOption}
use Rattle.json.specs.Tape.{node_token}
use Rattle.json.specs.Token.{Token}
use Rattle.serde_json.specs.Data.{Members, no_members}
use Rattle.serde_json.specs.Find.{get_member}
use Rattle.json_tree.specs.Trees.{BeginsMembers, HasData, view}
use Rattle.json_tree.proofs.tree.find.Given as goal

-- of the members so far the last of that name is found, and those that are left go in after them
abbrev pub invariant-members : goal.invariant-members
invariant-members l =
    (ms : Members) (rest : List Token) → BeginsMembers (drop l.first (map node_token l.nodes)) no_members ms rest
    → (old : Members) × BeginsMembers (drop l.at (map node_token l.nodes)) old ms rest
    × MatchOption l.found (get_member l.name old ≡ None)
    (λ i. HasData (drop i (map node_token l.nodes)) × (get_member l.name old ≡ Some (view (drop i (map node_token l.nodes)))))

abbrev pub decreases-members : goal.decreases-members
decreases-members l = length l.nodes - l.at
