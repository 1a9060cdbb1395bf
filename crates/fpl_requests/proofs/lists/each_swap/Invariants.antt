use Rattle.std.proofs.Common.{◌≡◌, length}
use Rattle.fpl_requests.specs.Members.{each}
use Rattle.fpl_requests.specs.Requests.{swap}
use Rattle.json_tree.specs.Trees.{seen}
use Rattle.fpl_requests.proofs.ListLemmas.{with_front}
use Rattle.fpl_requests.proofs.lists.each_swap.Given as goal

-- the transfers so far and those of what is left are those of all
abbrev pub invariant-loop-value : goal.invariant-loop-value
invariant-loop-value l = with_front l.list (each swap (seen l.rest)) ≡ each swap (seen l.initial.rest)

abbrev pub decreases-loop-value : goal.decreases-loop-value
decreases-loop-value l = length l.rest
