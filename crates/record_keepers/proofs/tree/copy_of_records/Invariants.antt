use Rattle.std.proofs.Common.{◌≡◌, ◌++◌}
use Rattle.record_keepers.specs.Records.{records}
use Rattle.record_keepers.proofs.tree.copy_of_records.Given as goal

-- the records so far, and those that are left
abbrev pub invariant-loop-key : goal.invariant-loop-key
invariant-loop-key l = l.copy.items ++ records l.key-iterator ≡ records l.tree.entries
