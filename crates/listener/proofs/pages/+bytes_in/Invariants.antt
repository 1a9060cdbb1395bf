use Rattle.std.proofs.Common.{length}
use Rattle.listener.proofs.pages.+bytes_in.Given as goal

-- there are fewer pages behind the first
abbrev pub decreases-bytes_in : goal.decreases-bytes_in
decreases-bytes_in l = length l.pages.now
