use Rattle.std.proofs.Common.{ap, sym, [], ◌∙◌}
use Rattle.rule_book.specs.MatchFacts.{Sheet, tells_facts, with_sheet}
use Rattle.match_facts.proofs.SheetEntries.{sheet_found, sheet_absent, still_sorted, with_inserted, with_written, with_cleared, with_none}
use Rattle.match_facts.proofs.sheets.set_finished_in.Goals as goal

pub returns-then-not-tells_facts-clause-ok : goal.returns-then-not-tells_facts-clause-ok
returns-then-not-tells_facts-clause-ok c =
    let facts = c.args.sheets.now in
    let change = λ (sheet : Sheet). with_sheet facts c.args.fixture (record { lines = sheet.lines; finished = c.args.finished }) in
    c.remove.ensures.entries
    ∙ with_cleared facts c.args.fixture c.requires c.set_finished.new.self (sym c.tells_facts.ensures ∙ c.if-not-tells_facts.true)
    ∙ ap (with_sheet facts c.args.fixture) c.set_finished.ensures
    ∙ ap change (sheet_found facts c.args.fixture c.in-Some.sheet.now c.in-Some.ensures.value)

pub returns-else-not-tells_facts-clause-ok : goal.returns-else-not-tells_facts-clause-ok
returns-else-not-tells_facts-clause-ok c =
    let facts = c.args.sheets.now in
    let change = λ (sheet : Sheet). with_sheet facts c.args.fixture (record { lines = sheet.lines; finished = c.args.finished }) in
    with_written facts c.args.fixture c.requires c.set_finished.new.self c.in-Some.sheet.now c.in-Some.ensures.value (sym c.tells_facts.ensures ∙ c.if-not-tells_facts.false)
    ∙ ap (with_sheet facts c.args.fixture) c.set_finished.ensures
    ∙ ap change (sheet_found facts c.args.fixture c.in-Some.sheet.now c.in-Some.ensures.value)

pub returns-in_ok-insert-clause-ok : goal.returns-in_ok-insert-clause-ok
returns-in_ok-insert-clause-ok c =
    let facts = c.args.sheets.now in
    let change = λ (sheet : Sheet). with_sheet facts c.args.fixture (record { lines = sheet.lines; finished = c.args.finished }) in
    c.in_ok-insert.ensures.ok
    ∙ with_inserted facts c.args.fixture c.requires c.in_ok-new.field-0 (ap tells_facts c.in_ok-new.ensures)
    ∙ ap (with_sheet facts c.args.fixture) c.in_ok-new.ensures
    ∙ ap (λ b. with_sheet facts c.args.fixture (record { lines = []; finished = b })) (sym c.if-finished.true)
    ∙ ap change (sheet_absent facts c.args.fixture c.in_default.ensures.value)

pub returns-else-finished-clause-ok : goal.returns-else-finished-clause-ok
returns-else-finished-clause-ok c =
    let facts = c.args.sheets.now in
    let change = λ (sheet : Sheet). with_sheet facts c.args.fixture (record { lines = sheet.lines; finished = c.args.finished }) in
    with_none facts c.args.fixture c.requires (record { lines = []; finished = c.args.finished }) c.in_default.ensures.value (ap (λ b. tells_facts (record { lines = []; finished = b })) c.if-finished.false)
    ∙ ap change (sheet_absent facts c.args.fixture c.in_default.ensures.value)

pub returns-else-not-tells_facts-clause-sorted : goal.returns-else-not-tells_facts-clause-sorted
returns-else-not-tells_facts-clause-sorted c = still_sorted c.args.sheets.now c.args.fixture c.requires c.set_finished.new.self
