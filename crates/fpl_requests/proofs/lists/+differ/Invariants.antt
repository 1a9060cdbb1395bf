use Rattle.std.proofs.Common.{length}
use Rattle.fpl_requests.proofs.lists.+differ.Given as goal

abbrev pub decreases-differ : goal.decreases-differ
decreases-differ l = length l.clubs.now
