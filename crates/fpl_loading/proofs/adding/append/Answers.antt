use Rattle.std.proofs.Common.{refl}
use Rattle.fpl_loading.proofs.RowLemmas.{one_put}
use Rattle.fpl_loading.proofs.adding.append.Goals as goal

pub loop-place-preserved : goal.loop-place-preserved
loop-place-preserved c =
    one_put c.args.places.now c.loop-place.places c.push.new.self c.args.more.now c.loop-place.place-index _ _ c.loop-place-test.true refl c.in_ok-push.ensures.ok c.loop-place.invariant
