use Rattle.record_fields.specs.Lists.{pick_bytes}
use Rattle.record_fields.specs.Ranges.{IsPick}
use Rattle.record_fields.proofs.Each.{all_of_them, one_more_written}
use Rattle.record_fields.proofs.lists.append_picks.Goals as goal

pub loop-pick-preserved : goal.loop-pick-preserved
loop-pick-preserved c =
    one_more_written IsPick pick_bytes c.args.picks.now c.loop-pick.pick-index c.pick-item.result c.args.bytes.now.items c.loop-pick.bytes.items _ c.loop-pick-test.true c.pick-item.is c.loop-pick.invariant c.in_ok-append_pick.ensures.written c.in_ok-append_pick.ensures.fits

pub returns-clause-fits : goal.returns-clause-fits
returns-clause-fits c = all_of_them IsPick c.args.picks.now c.loop-pick.pick-index c.loop-pick-test.false c.loop-pick.invariant.1
