use Rattle.std.proofs.Common.{◌≡◌, length}
use Rattle.fpl_requests.specs.declared.field.FieldName.TheVariants as field
use Rattle.fpl_requests.specs.Members.{each, entry}
use Rattle.json_tree.specs.Trees.{seen}
use Rattle.fpl_requests.proofs.ListLemmas.{with_front}
use Rattle.fpl_requests.proofs.lists.each_entry.Given as goal

-- the entries so far and those of what is left are those of all
abbrev pub invariant-loop-value : goal.invariant-loop-value
invariant-loop-value l =
    with_front l.list (each (entry field.Order 1 4294967295) (seen l.rest))
    ≡ each (entry field.Order 1 4294967295) (seen l.initial.rest)

abbrev pub decreases-loop-value : goal.decreases-loop-value
decreases-loop-value l = length l.rest
