use Rattle.std.proofs.Common.{◌≡◌, ◌+◌}
use Rattle.match_facts.proofs.reads.count_reads.Given as goal

abbrev pub invariant-reads : goal.invariant-reads
invariant-reads g l = l.steps ≡ l.fn.steps + l.counter
