use Rattle.std.proofs.Common.{sym, ◌∙◌}
use Rattle.match_facts.proofs.SheetEntries.{with_inserted, with_removed}
use Rattle.match_facts.proofs.sheets.put_sheet_in.Goals as goal

pub returns-in_ok-insert-clause-ok : goal.returns-in_ok-insert-clause-ok
returns-in_ok-insert-clause-ok c = c.in_ok-insert.ensures.ok ∙ with_inserted c.args.sheets.now c.args.fixture c.requires c.args.sheet (sym c.tells_facts.ensures ∙ c.if-tells_facts.true)

pub returns-else-tells_facts-clause-ok : goal.returns-else-tells_facts-clause-ok
returns-else-tells_facts-clause-ok c = c.remove.ensures.entries ∙ with_removed c.args.sheets.now c.args.fixture c.requires c.args.sheet (sym c.tells_facts.ensures ∙ c.if-tells_facts.false)
