use Rattle.season_views.proofs.Lists.{made_more}
use Rattle.season_views.proofs.views.deadlines_of.Goals as goal

pub loop-place-preserved : goal.loop-place-preserved
loop-place-preserved c =
    made_more c.args.calendar.now.deadlines c.loop-place.place c.deadline_at.result c.loop-place.deadlines c.push.new.self c.deadline_at.ensures c.loop-place.invariant c.in_ok-push.ensures.ok
