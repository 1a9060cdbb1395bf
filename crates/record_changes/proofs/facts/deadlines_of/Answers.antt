use Rattle.std.proofs.Common.{◌<◌, ◌++◌, [], ◌∷◌, ◌∙◌, List, ℕ, length, arith, ap}
use Rattle.record_changes.proofs.Found.{next_taken}
use Rattle.record_changes.proofs.facts.deadlines_of.Goals as goal

pub loop-place-preserved : goal.loop-place-preserved
loop-place-preserved c =
    let within : c.loop-place.place < length c.args.calendar.now.deadlines = omega (arith, c.loop-place-test.true, c.gameweeks-place-end.ensures.value) in
    c.in_ok-push.ensures.ok ∙ ap (λ (l : List ℕ). l ++ c.deadline_at.result ∷ []) c.loop-place.invariant
    ∙ next_taken c.args.calendar.now.deadlines c.loop-place.place c.deadline_at.result within c.deadline_at.ensures
