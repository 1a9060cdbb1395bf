use Rattle.std.proofs.Common.{◌≡◌, ◌+◌}
use Rattle.season_views.proofs.seen.count_reads.Given as goal

abbrev pub invariant-reads : goal.invariant-reads
invariant-reads g l = l.steps ≡ l.fn.steps + l.counter
