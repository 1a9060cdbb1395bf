use Rattle.std.proofs.Common.{◌≡◌, ap, ◌∙◌}
use Rattle.std.specs.Map.{set_value}
use Rattle.std.specs.BTreeMap.{is_at}
use Rattle.std.specs.Ordering.{nat_cmp}
use Rattle.std.proofs.lemmas.Result.{on_ok_weaker, on_err_weaker}
use Rattle.rule_book.specs.MatchFacts.{Sheet, bare_sheet, tells_facts, with_sheet, with_line}
use Rattle.match_facts.proofs.SheetEntries.{sheet_found, sheet_absent, with_same, still_sorted, with_inserted, with_written, a_line_tells}
use Rattle.match_facts.proofs.sheets.put_line_in.Goals as goal

pub put-requires : goal.put-requires
put-requires c = rw (sheet_found c.args.sheets.now c.args.fixture c.in-Some.sheet.now c.in-Some.ensures.value) c.requires.room

pub returns-in-Some-clause-ok : goal.returns-in-Some-clause-ok
returns-in-Some-clause-ok c =
    let facts = c.args.sheets.now in
    let old = c.in-Some.sheet.now in
    let change = λ (sheet : Sheet). with_sheet facts c.args.fixture (record { lines = with_line sheet.lines c.args.player c.args.line.now; finished = sheet.finished }) in
    on_ok_weaker c.put.result (λ written.
    with_written facts c.args.fixture c.requires.sorted c.put.new.self old c.in-Some.ensures.value (ap tells_facts written ∙ a_line_tells old.lines c.args.player c.args.line.now old.finished)
    ∙ ap (with_sheet facts c.args.fixture) written
    ∙ ap change (sheet_found facts c.args.fixture old c.in-Some.ensures.value)) c.put.ensures.ok

pub returns-in-Some-clause-err : goal.returns-in-Some-clause-err
returns-in-Some-clause-err c =
    let facts = c.args.sheets.now in
    on_err_weaker c.put.result (λ kept.
    ap (set_value (is_at (nat_cmp c.args.fixture)) facts) kept
    ∙ with_same facts c.args.fixture c.in-Some.sheet.now c.in-Some.ensures.value) c.put.ensures.err

pub returns-clause-ok : goal.returns-clause-ok
returns-clause-ok c =
    let facts = c.args.sheets.now in
    let change = λ (sheet : Sheet). with_sheet facts c.args.fixture (record { lines = with_line sheet.lines c.args.player c.args.line.now; finished = sheet.finished }) in
    let made : Sheet → Sheet = λ sheet. record { lines = with_line sheet.lines c.args.player c.args.line.now; finished = sheet.finished } in
    let new : c.put-2.new.self ≡ made bare_sheet = c.in_ok-put.ensures.ok ∙ ap made c.in_ok-sheet.ensures in
    c.in_ok-insert.ensures.ok
    ∙ with_inserted facts c.args.fixture c.requires.sorted c.put-2.new.self (ap tells_facts new)
    ∙ ap (with_sheet facts c.args.fixture) new
    ∙ ap change (sheet_absent facts c.args.fixture c.in_default.ensures.value)

pub returns-in-Some-clause-sorted : goal.returns-in-Some-clause-sorted
returns-in-Some-clause-sorted c = still_sorted c.args.sheets.now c.args.fixture c.requires.sorted c.put.new.self
