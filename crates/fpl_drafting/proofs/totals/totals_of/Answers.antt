use Rattle.std.proofs.Common.{rules}
use Rattle.fpl_drafting.proofs.TotalLemmas.{totals_more}
use Rattle.fpl_drafting.proofs.totals.totals_of.Goals as goal

pub loop-place-preserved : goal.loop-place-preserved
loop-place-preserved c =
    totals_more c.args.draft.now c.args.told.now c.args.locked c.loop-place.place c.loop-place.totals.items c.push.new.self.items c.in_ok-total.total
    c.loop-place.invariant c.in_ok-total.ensures (search rules)
