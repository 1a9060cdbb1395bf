use Rattle.std.proofs.Common.{◌≡◌, ◌-◌, ◌∙◌, max, arith}
use Rattle.rule_book.specs.Calendar.{passed_deadlines}
use Rattle.season_restoring.proofs.Locks.{passed_by}
use Rattle.season_restoring.proofs.fact_parts.lock.Goals as goal

pub returns-then-locked-gt0 : goal.returns-then-locked-gt0
returns-then-locked-gt0 c =
    let old = c.args.calendar.now in
    let counted = passed_by old.deadlines (c.args.locked - 1) c.deadline_at-last.result c.locked.ensures.lawful.deadlines_rise c.deadline_at-last.ensures in
    let is : max old.locked (passed_deadlines old.deadlines c.deadline_at-last.result) ≡ c.args.locked = omega (arith, counted, c.requires.none_locked) in
    c.pass.ensures.passed ∙ (λ i. record old { locked = is i })
