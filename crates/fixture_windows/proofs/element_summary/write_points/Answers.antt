use Rattle.std.proofs.Common.{◌≡◌, ◌∙◌, ap, arith, of_z, pos, to_z, w32, ◌+ℤ◌}
use Rattle.std.specs.Prelude.{codes}
use Rattle.std.proofs.lemmas.Int.{ints}
use Rattle.json_members.specs.Members.{integer}
use Rattle.json_members.specs.Tokens.{member_tokens}
use Rattle.rule_book.specs.Points.{points_of}
use Rattle.season_views.proofs.Written.{retold}
use Rattle.fixture_windows.proofs.element_summary.write_points.Goals as goal

pub returns : goal.returns
returns g c =
    let bonus = c.args.bonus in
    let points = c.line_points-points.result in
    let total = c.with_bonus.result in
    let plain : to_z w32 (of_z w32 points) ≡ points = omega (arith, ints, c.line_points-points.ensures.low, c.line_points-points.ensures.high) in
    let sum : total ≡ points +ℤ pos bonus = c.with_bonus.ensures ∙ ap (λ z. z +ℤ pos bonus) plain in
    let kept : to_z w32 (of_z w32 total) ≡ total = omega (arith, ints, sum, c.line_points-points.ensures.low, c.line_points-points.ensures.high) in
    let worth = c.line_points-points.ensures.value ∙ (λ i. points_of (c.profile.ensures i) (c.position_of.ensures i) c.args.line.now) in
    retold (ap (λ z. member_tokens (codes "total_points") (integer z)) (kept ∙ sum ∙ ap (λ z. z +ℤ pos bonus) worth)) c.write_integer.ensures
