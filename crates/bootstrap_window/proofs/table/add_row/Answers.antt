use Rattle.std.proofs.Common.{◌≡◌, ◌∙◌, ◌+ℤ◌, pos, ap, rules, to_z, of_z, w32}
use Rattle.rule_book.specs.BonusPoints.{bps_of}
use Rattle.rule_book.specs.PlayerFigures.{position_in}
use Rattle.rule_book.specs.Points.{points_of}
use Rattle.bootstrap_window.specs.Tables.{told, totals_in, with_line}
use Rattle.bootstrap_window.proofs.table.add_row.Goals as goal

pub returns-clause-own : goal.returns-clause-own
returns-clause-own g c =
    let facts = c.args.seen.now.facts in
    let player = c.args.player in
    let line = c.args.line.now in
    let points : to_z w32 (of_z w32 c.points_with-points.result) ≡ c.points_with-points.result = search rules in
    let bps : to_z w32 (of_z w32 c.bps.result) ≡ c.bps.result = search rules in
    let is_points : to_z w32 (of_z w32 c.points_with-points.result) ≡ points_of facts.profile (position_in facts.players player) line +ℤ pos c.args.bonus =
    points ∙ c.points_with-points.ensures.value ∙ (λ i. points_of (c.profile.ensures i) (c.position_in-position.ensures i) line +ℤ pos c.args.bonus) in
    let is_bps : to_z w32 (of_z w32 c.bps.result) ≡ bps_of (position_in facts.players player) line =
    bps ∙ c.bps.ensures.value ∙ ap (λ p. bps_of p line) c.position_in-position.ensures in
    c.in_ok-add_line.ensures.own ∙ (λ i. with_line (told (totals_in c.args.table.now player)) line (is_points i) (is_bps i) c.args.bonus)
