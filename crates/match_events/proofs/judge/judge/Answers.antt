use Rattle.std.proofs.Common.{◌∙◌, sym}
use Rattle.match_events.proofs.WalkLemmas.{broken_here, broken_later}
use Rattle.match_events.proofs.judge.judge.Goals as goal

pub returns-in-Some : goal.returns-in-Some
returns-in-Some c =
    sym c.loop-place.invariant
    ∙ broken_here c.args.events.now c.loop-place.place c.index-events-place.result c.in-Some.rule c.loop-place-test.true c.index-events-place.is c.in-Some.ensures

pub loop-place-preserved : goal.loop-place-preserved
loop-place-preserved c =
    sym (broken_later c.args.events.now c.loop-place.place c.index-events-place.result c.loop-place-test.true c.index-events-place.is c.in-None.ensures)
    ∙ c.loop-place.invariant
