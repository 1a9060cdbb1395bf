use Rattle.season_host.specs.Cells.{running_in}
use Rattle.season_host.proofs.following.pass.Given as goal

abbrev pub ghost-follow_locks : goal.ghost-follow_locks
ghost-follow_locks g a = running_in g.before
