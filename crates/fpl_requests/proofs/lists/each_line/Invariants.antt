use Rattle.std.proofs.Common.{◌≡◌, length}
use Rattle.fpl_requests.specs.Members.{each}
use Rattle.fpl_requests.specs.Requests.{player_line}
use Rattle.json_tree.specs.Trees.{seen}
use Rattle.fpl_requests.proofs.ListLemmas.{with_front}
use Rattle.fpl_requests.proofs.lists.each_line.Given as goal

-- the lines so far and those of what is left are those of all
abbrev pub invariant-loop-value : goal.invariant-loop-value
invariant-loop-value l = with_front l.list (each player_line (seen l.rest)) ≡ each player_line (seen l.initial.rest)

abbrev pub decreases-loop-value : goal.decreases-loop-value
decreases-loop-value l = length l.rest
