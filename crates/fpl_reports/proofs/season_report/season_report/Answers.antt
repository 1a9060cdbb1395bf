use Rattle.std.proofs.Common.{◌≡◌, ◌<◌, ◌+◌, ◌≤◌, ◌∷◌, [], ◌++◌, ◌∙◌, ℕ, length, get_or, arith, ap, refl, Vec, Global}
use Rattle.std.proofs.lemmas.Result.{IfOk-weaker}
use Rattle.fpl_reports.specs.Reports.{IsSeasonReport, season_header}
use Rattle.fpl_reports.proofs.ReportFacts.{header_text, instants_all, instants_more, instants_none, instants_taken, season_more}
use Rattle.fpl_reports.proofs.season_report.season_report.Goals as goal

pub loop-deadline-init : goal.loop-deadline-init
loop-deadline-init c =
    let header : c.as_bytes.result.now ∷ c.as_bytes-2.result.now ∷ c.as_bytes-3.result.now ∷ [] ≡ season_header =
    cc (c.as_bytes.ensures.value, c.as_bytes-2.ensures.value, c.as_bytes-3.ensures.value) in
    (refl, [], instants_none, header_text season_header _ c.new.result c.in_ok-report.report c.new.ensures header c.in_ok-report.ensures)

pub loop-deadline-preserved : goal.loop-deadline-preserved
loop-deadline-preserved c =
    let at = c.loop-deadline in
    let inv = at.invariant in
    let puts = c.in_ok-report-2.ensures in
    let deadlines = c.args.season.now.deadlines in
    let are = c.as_slice-deadline-items.ensures in
    let here : at.deadline-index < length deadlines = rw are at c.loop-deadline-test.true in
    let item : c.deadline-item.result ≡ get_or deadlines at.deadline-index c.deadline-item.result = rw are at c.deadline-item.is in
    let taken : length inv.1 ≡ at.deadline-index = instants_taken inv.1 deadlines at.deadline-index (omega arith) inv.2 in (
      ap (λ n. n + 1) inv.0,
      inv.1 ++ puts.deadline ∷ [],
      instants_more inv.1 deadlines at.deadline-index puts.deadline c.deadline-item.result here item puts.instant inv.2,
      season_more season_header c.args.season.now.locked (at.gameweek + 1) inv.1 puts.deadline at.report _ (omega (arith, inv.0, taken)) inv.3 puts.put,
    )

pub returns : goal.returns
returns c =
    let at = c.loop-deadline in
    let inv = at.invariant in
    let deadlines = c.args.season.now.deadlines in
    let are = c.as_slice-deadline-items.ensures in
    let past : length deadlines ≤ at.deadline-index = rw are at c.loop-deadline-test.false in
    IfOk-weaker c.text.result _ (λ (text : Vec ℕ Global). IsSeasonReport c.args.season.now text.items)
    (λ text is. record { deadlines = inv.1; instants = instants_all inv.1 deadlines at.deadline-index past inv.2; text_is = is ∙ inv.3 })
    c.text.ensures
