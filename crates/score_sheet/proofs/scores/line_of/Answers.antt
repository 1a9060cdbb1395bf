use Rattle.std.proofs.Common.{◌≡◌, ◌+ℤ◌, ℤ, pos, rules, arith, w32, to_z, of_z, FitsSigned, ap, ◌∙◌}
use Rattle.std.proofs.lemmas.Int.{ints, to_z-of_z}
use Rattle.score_sheet.specs.Scores.{line_text}
use Rattle.score_sheet.proofs.ScoreLists.{numbers_same}
use Rattle.score_sheet.proofs.scores.line_of.Goals as goal

-- Each signed number is passed on by value, so a clause has it through its bits and back.
pub returns : goal.returns
unfolding line_text
returns c =
    let fits_points : FitsSigned w32 c.line_points-points.result = search rules in
    let fits_number : FitsSigned w32 c.bps-number.result = search rules in
    let text = simp to_z-of_z at c.in_ok-numbers.ensures in
    let total : to_z w32 (of_z w32 (c.line_points-points.result +ℤ to_z w32 (of_z w32 c.from.result))) ≡ c.line_points-points.result +ℤ pos c.args.won = omega (arith, ints) in
    numbers_same _ _ _ _ _ _ _ c.args.won _ _ text c.get.ensures.value
    c.line_points-points.ensures.value c.bps-number.ensures.value
    (total ∙ ap (λ (z : ℤ). z +ℤ pos c.args.won) c.line_points-points.ensures.value)
