use Rattle.season_host.proofs.Followed.{seen_or}
use Rattle.season_host.proofs.following.follow_plan.Given as goal

abbrev pub ghost-follow_in : goal.ghost-follow_in
ghost-follow_in g a = seen_or g.before a.running.now
