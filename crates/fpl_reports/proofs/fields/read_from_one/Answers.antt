use Rattle.std.proofs.Common.{arith}
use Rattle.fpl_reports.proofs.FieldFacts.{not_zero}
use Rattle.fpl_reports.proofs.fields.read_from_one.Goals as goal

pub returns-then-number-eq0 : goal.returns-then-number-eq0
returns-then-number-eq0 c = λ n spelled.
    not_zero c.args.field.now c.args.greatest c.in_ok-number.number n (omega (arith, c.ranges.greatest.fits)) (omega (arith, c.if-number-eq0.true)) c.in_ok-number.ensures.1 spelled
