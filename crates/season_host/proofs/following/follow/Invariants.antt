use Rattle.season_host.specs.Cells.{running_in}
use Rattle.season_host.proofs.following.follow.Given as goal

abbrev pub ghost-follow_plan : goal.ghost-follow_plan
ghost-follow_plan g a = running_in g.before
