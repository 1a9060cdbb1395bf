use Rattle.match_facts.specs.Columns.{IsPlace, IsGap}
use Rattle.match_facts.proofs.TableLemmas.{sorted_table, table_remove, remove_sheet, keep_sheets}
use Rattle.match_facts.proofs.table.Table.remove.Goals as goal

pub invariant_of-self : goal.invariant_of-self
invariant_of-self c =
    let place : IsPlace c.self.inside.fixtures.items c.args.fixture c.in-Ok.place = rw c.deref.ensures.value at c.in-Ok.ensures in
    rw (c.remove.ensures.items, c.remove-in-Ok.ensures.items) (table_remove c.self.inside.fixtures.items c.self.inside.sheets.items c.self.invariant c.args.fixture c.in-Ok.place place)

pub returns-in-Ok-clause-entries : goal.returns-in-Ok-clause-entries
returns-in-Ok-clause-entries c =
    let place : IsPlace c.self.inside.fixtures.items c.args.fixture c.in-Ok.place = rw c.deref.ensures.value at c.in-Ok.ensures in
    rw (c.remove.ensures.items, c.remove-in-Ok.ensures.items, ← c.self.view_is) (remove_sheet c.self.inside.fixtures.items c.self.inside.sheets.items c.self.invariant c.args.fixture c.in-Ok.place place)

pub returns-in-Ok-clause-sorted : goal.returns-in-Ok-clause-sorted
returns-in-Ok-clause-sorted c =
    let place : IsPlace c.self.inside.fixtures.items c.args.fixture c.in-Ok.place = rw c.deref.ensures.value at c.in-Ok.ensures in
    rw (c.remove.ensures.items, c.remove-in-Ok.ensures.items) (sorted_table _ _ (table_remove c.self.inside.fixtures.items c.self.inside.sheets.items c.self.invariant c.args.fixture c.in-Ok.place place))

pub returns-in_default-clause-entries : goal.returns-in_default-clause-entries
returns-in_default-clause-entries c =
    let gap : IsGap c.self.inside.fixtures.items c.args.fixture c.in_default.field-0 = rw c.deref.ensures.value at c.in_default.ensures in
    rw (← c.self.view_is) (keep_sheets c.self.inside.fixtures.items c.self.inside.sheets.items c.self.invariant c.args.fixture c.in_default.field-0 gap)

pub returns-in_default-clause-sorted : goal.returns-in_default-clause-sorted
returns-in_default-clause-sorted c = rw (← c.self.view_is) (sorted_table _ _ c.self.invariant)
