use Rattle.std.proofs.Common.{arith}
use Rattle.csv.specs.Records.{fields_of}
use Rattle.fpl_drafting.proofs.RowLemmas.{no_zero}
use Rattle.fpl_drafting.proofs.row.number_at.Goals as goal

pub returns-then-number-eq0 : goal.returns-then-number-eq0
returns-then-number-eq0 c = λ n spelled.
    no_zero (fields_of c.args.read.now) c.args.place c.args.greatest c.in_ok-number.number n c.field_of.result.now
    (omega (arith, c.ranges.greatest.fits)) c.if-number-eq0.true c.field_of.ensures c.in_ok-number.ensures.1 spelled
