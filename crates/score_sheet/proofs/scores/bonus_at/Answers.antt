use Rattle.std.proofs.Common.{rules, cond, sym, ap, ◌∙◌, w32, FitsSigned}
use Rattle.std.proofs.lemmas.Int.{to_z-of_z}
use Rattle.rule_book.specs.Bonus.{standing, bonus_of}
use Rattle.rule_book.specs.BonusPoints.{bps_of}
use Rattle.score_sheet.proofs.scores.bonus_at.Goals as goal

-- The number is passed on by value, so it is seen through its bits and back.
pub returns-then-has_minutes-clause-value : goal.returns-then-has_minutes-clause-value
returns-then-has_minutes-clause-value c = λ rows law.
    let row = c.args.row.now in
    let fits : FitsSigned w32 c.bps.result = search rules in
    let won = rw (to_z-of_z w32 c.bps.result fits, c.bps.ensures.value) at c.bonus.ensures in
    won ∙ law (bps_of row.position row.line)
    ∙ ap (λ b. cond b (bonus_of (standing rows) (bps_of row.position row.line)) 0) (sym c.if-has_minutes.true ∙ c.has_minutes.ensures)
