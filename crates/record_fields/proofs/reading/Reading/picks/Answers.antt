use Rattle.std.proofs.lemmas.Result.{err_from_is_err_and}
use Rattle.record_fields.specs.ListReading.{pick_at}
use Rattle.record_fields.specs.Reading.{many_at}
use Rattle.record_fields.proofs.Loops.{fills_on, fills_ends, is_filled}
use Rattle.record_fields.proofs.reading.Reading.picks.Goals as goal

pub returns-in_err-pick : goal.returns-in_err-pick
returns-in_err-pick c =
    let p = err_from_is_err_and c.from_residual.result c.from_residual.ensures.1 in
    rw (p.1, p.2) (fills_ends pick_at c.in_err-pick.field-0.0 c.loop-place.picks 15 c.loop-place.place c.loop-place.self (many_at pick_at 15 c.args.self.now) c.loop-place-test.true c.in_err-pick.ensures c.loop-place.invariant)

pub loop-place-preserved : goal.loop-place-preserved
loop-place-preserved c = fills_on pick_at c.loop-place.picks 15 c.loop-place.place c.loop-place.self c.in_ok-pick.pick c.pick.new.self (many_at pick_at 15 c.args.self.now) c.loop-place-test.true c.in_ok-pick.ensures c.loop-place.invariant

pub returns : goal.returns
returns c = is_filled pick_at c.loop-place.picks 15 c.loop-place.place c.loop-place.self (many_at pick_at 15 c.args.self.now) c.loop-place-test.false c.loop-place.invariant
