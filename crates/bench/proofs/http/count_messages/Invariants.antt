use Rattle.std.proofs.Common.{length}
use Rattle.bench.proofs.http.count_messages.Given as goal

abbrev pub decreases-loop-count : goal.decreases-loop-count
decreases-loop-count l = length l.decoder.pending
