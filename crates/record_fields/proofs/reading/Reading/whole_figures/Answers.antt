use Rattle.std.proofs.lemmas.Result.{err_from_is_err_and}
use Rattle.record_fields.specs.FieldReading.{whole_in}
use Rattle.record_fields.specs.Reading.{many_at}
use Rattle.record_fields.proofs.Loops.{fills_on, fills_ends, is_filled}
use Rattle.record_fields.proofs.reading.Reading.whole_figures.Goals as goal

pub returns-in_err-figure : goal.returns-in_err-figure
returns-in_err-figure c =
    let p = err_from_is_err_and c.from_residual.result c.from_residual.ensures.1 in
    rw (p.1, p.2) (fills_ends (whole_in 0 65535) c.in_err-figure.field-0.0 c.loop-place.figures 28 c.loop-place.place c.loop-place.self (many_at (whole_in 0 65535) 28 c.args.self.now) c.loop-place-test.true c.in_err-figure.ensures c.loop-place.invariant)

pub loop-place-preserved : goal.loop-place-preserved
loop-place-preserved c = fills_on (whole_in 0 65535) c.loop-place.figures 28 c.loop-place.place c.loop-place.self c.in_ok-figure.figure c.whole_u16.new.self (many_at (whole_in 0 65535) 28 c.args.self.now) c.loop-place-test.true c.in_ok-figure.ensures c.loop-place.invariant

pub returns : goal.returns
returns c = is_filled (whole_in 0 65535) c.loop-place.figures 28 c.loop-place.place c.loop-place.self (many_at (whole_in 0 65535) 28 c.args.self.now) c.loop-place-test.false c.loop-place.invariant
