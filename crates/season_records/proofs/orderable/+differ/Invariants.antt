use Rattle.std.proofs.Common.{length}
use Rattle.season_records.proofs.orderable.+differ.Given as goal

abbrev pub decreases-differ : goal.decreases-differ
decreases-differ l = length l.clubs.now
