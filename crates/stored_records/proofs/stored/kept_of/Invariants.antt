use Rattle.std.proofs.Common.{◌≡◌}
use Rattle.stored_records.proofs.stored.kept_of.Given as goal

abbrev pub invariant-rows : goal.invariant-rows
invariant-rows l = l.kept.items ≡ l.yielded
