use Rattle.std.specs.Int.{w64}
use Rattle.record_fields.specs.Fields.{number}
use Rattle.record_fields.specs.Ranges.{IsMoment}
use Rattle.record_fields.proofs.Each.{all_of_them, one_more_written}
use Rattle.record_fields.proofs.lists.append_moments.Goals as goal

pub loop-moment-preserved : goal.loop-moment-preserved
loop-moment-preserved c =
    one_more_written IsMoment (number w64) c.args.moments.now c.loop-moment.moment-index c.moment-item.result c.args.bytes.now.items c.loop-moment.bytes.items _ c.loop-moment-test.true c.moment-item.is c.loop-moment.invariant c.in_ok-append_moment.ensures.written c.in_ok-append_moment.ensures.fits

pub returns-clause-fits : goal.returns-clause-fits
returns-clause-fits c = all_of_them IsMoment c.args.moments.now c.loop-moment.moment-index c.loop-moment-test.false c.loop-moment.invariant.1
