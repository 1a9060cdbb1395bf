use Rattle.std.proofs.Common.{◌≡◌, ◌∙◌, ◌∷◌, [], rules}
use Rattle.std.specs.Fmt.{signed_decimal}
use Rattle.std.proofs.lemmas.Result.{IfOk-weaker}
use Rattle.fpl_reports.specs.Reports.{entry_header, entry_rows, net_row, rows_text, slot_rows}
use Rattle.fpl_reports.proofs.ReportFacts.{header_text, last_text}
use Rattle.fpl_reports.proofs.entry_report.entry_report.Goals as goal

pub returns : goal.returns
returns c =
    let entry = c.args.entry.now in
    let header : c.as_bytes.result.now ∷ c.as_bytes-2.result.now ∷ c.as_bytes-3.result.now ∷ c.as_bytes-4.result.now ∷ [] ≡ entry_header =
    cc (c.as_bytes.ensures.value, c.as_bytes-2.ensures.value, c.as_bytes-3.ensures.value, c.as_bytes-4.ensures.value) in
    let net : c.as_bytes-6.result.now ≡ signed_decimal entry.score.net = search rules in
    let last : c.as_bytes-5.result.now ∷ c.as_bytes-6.result.now ∷ c.as_bytes-nothing.result.now ∷ c.as_bytes-nothing.result.now ∷ [] ≡ net_row entry =
    cc (c.as_bytes-5.ensures.value, net, c.as_bytes-nothing.ensures.value) in
    let first = header_text entry_header _ c.new.result c.in_ok-report.report c.new.ensures header c.in_ok-report.ensures in
    let whole = last_text entry_header (slot_rows entry 1 entry.players) (net_row entry) _ c.in_ok-report.report c.in_ok-report-2.report c.in_ok-with.field-0 first c.in_ok-report-2.ensures last c.in_ok-with.ensures in
    IfOk-weaker c.text.result _ (λ text. text.items ≡ rows_text (entry_rows entry)) (λ text is. is ∙ whole) c.text.ensures
