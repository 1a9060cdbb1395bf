use Rattle.std.proofs.Common.{◌≡◌, ◌<◌, ◌≤◌, ◌+◌, ◌∙◌, arith, rules, subst, sym, ap, get_or, None}
use Rattle.fpl_reports.specs.declared.files.FixtureRow.{FixtureRow}
use Rattle.fpl_reports.proofs.DeadlineFacts.{first_more, late_more, lesser, nowhere, nowhere_late}
use Rattle.fpl_reports.proofs.deadlines.first_kickoffs.Goals as goal

pub loop-row-init : goal.loop-row-init
loop-row-init c = record {
  size = search rules;
  first = λ k below. nowhere 38 k;
  late = λ k below. nowhere_late 38 k;
}

pub loop-row-preserved : goal.loop-row-preserved
loop-row-preserved c =
    let at = c.loop-row in
    let P : FixtureRow → Type 0 = λ row. 5400 ≤ row.kickoff in
    let late : P c.row-item.result = subst P (sym c.row-item.is) (c.requires at.row-index c.row-item.result c.loop-row-test.true) in
    let low : c.from-place.result < 38 = omega arith in
    let place : c.from-place.result + 1 ≡ c.row-item.result.gameweek = omega arith in
    let range : c.get-in-loop-row.result ≤ 253402300799 = omega arith in
    let is = c.earlier.ensures ∙ ap (λ t. lesser (get_or at.first c.from-place.result None) t) c.get-in-loop-row.ensures.value in
    record {
      size = search rules;
      first = first_more at.first c.args.rows.now at.row-index c.from-place.result c.earlier.result c.row-item.result c.loop-row-test.true c.row-item.is at.invariant.size low place is at.invariant.first;
      late = late_more at.first c.from-place.result c.earlier.result c.row-item.result.kickoff at.invariant.size low is late (omega arith) at.invariant.late;
    }
