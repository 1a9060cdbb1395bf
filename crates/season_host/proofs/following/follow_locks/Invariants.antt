use Rattle.season_host.proofs.Followed.{season_then}
use Rattle.season_host.proofs.following.follow_locks.Given as goal

abbrev pub ghost-follow_locks_in : goal.ghost-follow_locks_in
ghost-follow_locks_in g a = season_then g.before a.running.now
