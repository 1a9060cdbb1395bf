use Rattle.std.proofs.Common.{◌≡◌, ◌-◌}
use Rattle.fpl_base.specs.Keeping.{map_of}
use Rattle.stored_records.specs.Sequels.{base_told}
use Rattle.stored_records.proofs.sequels.base_of.Given as goal

abbrev pub invariant-loop-back : goal.invariant-loop-back
invariant-loop-back l = base_told (map_of l.stored) l.entry (l.g - l.back) ≡ base_told (map_of l.stored) l.entry l.g
