use Rattle.season_host.specs.Cells.{running_seen}
use Rattle.season_host.proofs.following.follow_locks_in.Given as goal

abbrev pub ghost-follow_locks : goal.ghost-follow_locks
ghost-follow_locks g a = running_seen g.before
