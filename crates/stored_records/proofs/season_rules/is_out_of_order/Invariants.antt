use Rattle.std.proofs.Common.{◌+◌, ◌<◌, ℕ, get_or}
use Rattle.stored_records.proofs.season_rules.is_out_of_order.Given as goal

abbrev pub invariant-loop-i : goal.invariant-loop-i
invariant-loop-i l = (k : ℕ) → k + 1 < l.i → get_or l.deadlines k 0 < get_or l.deadlines (k + 1) 0
