use Rattle.std.proofs.Common.{◌∙◌, sym}
use Rattle.fixture_windows.proofs.PlaceFacts.{found, nobody, passed}
use Rattle.fixture_windows.proofs.element_summary.place_of.Goals as goal

pub loop-place-preserved : goal.loop-place-preserved
loop-place-preserved c = λ lines same.
    passed c.args.players.now lines c.loop-place.place c.args.player c.index-players-place.result same c.loop-place-test.true c.index-players-place.is (sym c.eq.ensures ∙ c.if-eq.false)
    ∙ c.loop-place.invariant lines same

pub returns-then-eq-clause-found : goal.returns-then-eq-clause-found
returns-then-eq-clause-found c = λ lines same.
    found c.args.players.now lines c.loop-place.place c.args.player c.index-players-place.result same c.loop-place-test.true c.index-players-place.is (sym c.eq.ensures ∙ c.if-eq.true)
    ∙ c.loop-place.invariant lines same

pub returns-clause-found : goal.returns-clause-found
returns-clause-found c = λ lines same.
    sym (nobody c.args.players.now lines c.loop-place.place c.args.player c.loop-place-test.false) ∙ c.loop-place.invariant lines same
