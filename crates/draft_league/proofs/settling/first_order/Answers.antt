use Rattle.draft_league.proofs.Tables.{order_more}
use Rattle.draft_league.proofs.settling.first_order.Goals as goal

pub loop-place-preserved : goal.loop-place-preserved
loop-place-preserved c =
    rw c.in_ok-push.ensures.items (order_more c.loop-place.order.items c.args.members c.loop-place.place c.loop-place-test.true c.loop-place.invariant)
