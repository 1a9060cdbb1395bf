use Rattle.std.proofs.Common.{arith}
use Rattle.csv.specs.Records.{fields_of}
use Rattle.fpl_events.proofs.RowLemmas.{too_small}
use Rattle.fpl_events.proofs.row.number_at.Goals as goal

pub returns-then-number-least : goal.returns-then-number-least
returns-then-number-least c = λ n spelled.
    too_small (fields_of c.args.read.now) c.args.place c.args.least c.args.greatest c.in_ok-number.number n c.field_of.result.now
    (omega (arith, c.ranges.greatest.fits)) c.in_ok-number.ensures.0 c.if-number-least.true c.field_of.ensures c.in_ok-number.ensures.1 spelled
