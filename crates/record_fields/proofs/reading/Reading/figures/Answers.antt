use Rattle.std.proofs.lemmas.Result.{err_from_is_err_and}
use Rattle.std.specs.Int.{w16}
use Rattle.record_fields.specs.Reading.{number_at, many_at}
use Rattle.record_fields.proofs.Loops.{fills_on, fills_ends, is_filled}
use Rattle.record_fields.proofs.reading.Reading.figures.Goals as goal

pub returns-in_err-figure : goal.returns-in_err-figure
returns-in_err-figure c =
    let p = err_from_is_err_and c.from_residual.result c.from_residual.ensures.1 in
    rw (p.1, p.2) (fills_ends (number_at w16) c.in_err-figure.field-0.0 c.loop-place.figures 28 c.loop-place.place c.loop-place.self (many_at (number_at w16) 28 c.args.self.now) c.loop-place-test.true c.in_err-figure.ensures c.loop-place.invariant)

pub loop-place-preserved : goal.loop-place-preserved
loop-place-preserved c = fills_on (number_at w16) c.loop-place.figures 28 c.loop-place.place c.loop-place.self c.in_ok-figure.figure c.u16.new.self (many_at (number_at w16) 28 c.args.self.now) c.loop-place-test.true c.in_ok-figure.ensures c.loop-place.invariant

pub returns : goal.returns
returns c = is_filled (number_at w16) c.loop-place.figures 28 c.loop-place.place c.loop-place.self (many_at (number_at w16) 28 c.args.self.now) c.loop-place-test.false c.loop-place.invariant
