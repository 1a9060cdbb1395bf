use Rattle.std.proofs.Common.{ap, sym, ◌∙◌, refl}
use Rattle.rule_book.specs.MatchFacts.{Sheet, bare_sheet, with_sheet, without_line}
use Rattle.match_facts.proofs.SheetEntries.{sheet_found, sheet_absent, still_sorted, with_written, with_cleared, with_none}
use Rattle.match_facts.proofs.sheets.drop_line_in.Goals as goal

pub returns-then-not-tells_facts-clause-line : goal.returns-then-not-tells_facts-clause-line
returns-then-not-tells_facts-clause-line c =
    let facts = c.args.sheets.now in
    let change = λ (sheet : Sheet). with_sheet facts c.args.fixture (record { lines = without_line sheet.lines c.args.player; finished = sheet.finished }) in
    c.remove-then-not-tells_facts.ensures.entries
    ∙ with_cleared facts c.args.fixture c.requires c.remove.new.self (sym c.tells_facts.ensures ∙ c.if-not-tells_facts.true)
    ∙ ap (with_sheet facts c.args.fixture) c.remove.ensures
    ∙ ap change (sheet_found facts c.args.fixture c.in-Some.sheet.now c.in-Some.ensures.value)

pub returns-else-not-tells_facts-clause-line : goal.returns-else-not-tells_facts-clause-line
returns-else-not-tells_facts-clause-line c =
    let facts = c.args.sheets.now in
    let change = λ (sheet : Sheet). with_sheet facts c.args.fixture (record { lines = without_line sheet.lines c.args.player; finished = sheet.finished }) in
    with_written facts c.args.fixture c.requires c.remove.new.self c.in-Some.sheet.now c.in-Some.ensures.value (sym c.tells_facts.ensures ∙ c.if-not-tells_facts.false)
    ∙ ap (with_sheet facts c.args.fixture) c.remove.ensures
    ∙ ap change (sheet_found facts c.args.fixture c.in-Some.sheet.now c.in-Some.ensures.value)

pub returns-in_default-clause-line : goal.returns-in_default-clause-line
returns-in_default-clause-line c =
    let facts = c.args.sheets.now in
    let change = λ (sheet : Sheet). with_sheet facts c.args.fixture (record { lines = without_line sheet.lines c.args.player; finished = sheet.finished }) in
    with_none facts c.args.fixture c.requires bare_sheet c.in_default.ensures.value refl
    ∙ ap change (sheet_absent facts c.args.fixture c.in_default.ensures.value)

pub returns-else-not-tells_facts-clause-sorted : goal.returns-else-not-tells_facts-clause-sorted
returns-else-not-tells_facts-clause-sorted c = still_sorted c.args.sheets.now c.args.fixture c.requires c.remove.new.self
