use Rattle.std.proofs.Common.{◌≡◌, arith}
use Rattle.std.specs.List.{insert}
use Rattle.std.proofs.lemmas.Grind.{common_steps}
use Rattle.match_facts.specs.Columns.{IsPlace, IsGap}
use Rattle.match_facts.proofs.TableLemmas.{sorted_table, table_set, set_sheet, table_insert, insert_sheet}
use Rattle.match_facts.proofs.table.Table.insert.Goals as goal

pub returns-in-Ok-clause-ok : goal.returns-in-Ok-clause-ok
returns-in-Ok-clause-ok c =
    let place : IsPlace c.self.inside.fixtures.items c.args.fixture c.in-Ok.place = rw c.deref.ensures.value at c.in-Ok.ensures in
    rw (← c.self.view_is) (set_sheet c.self.inside.fixtures.items c.self.inside.sheets.items c.self.invariant c.args.fixture c.in-Ok.place c.args.sheet place)

pub returns-in-Ok-clause-sorted : goal.returns-in-Ok-clause-sorted
returns-in-Ok-clause-sorted c =
    let place : IsPlace c.self.inside.fixtures.items c.args.fixture c.in-Ok.place = rw c.deref.ensures.value at c.in-Ok.ensures in
    sorted_table _ _ (table_set c.self.inside.fixtures.items c.self.inside.sheets.items c.self.invariant c.args.fixture c.in-Ok.place c.args.sheet place)

pub returns-in_err-reserve-in-Err-clause-sorted : goal.returns-in_err-reserve-in-Err-clause-sorted
returns-in_err-reserve-in-Err-clause-sorted c = rw c.reserve.ensures.items (sorted_table _ _ c.self.invariant)

pub returns-in_err-insert-in-Err-clause-sorted : goal.returns-in_err-insert-in-Err-clause-sorted
returns-in_err-insert-in-Err-clause-sorted c = rw (c.reserve.ensures.items, c.in_err-insert-in-Err.ensures.items) (sorted_table _ _ c.self.invariant)

-- the fixture goes into the room that was made for it
fixtures_are : (c : goal.After-insert-in-Err) → c.insert-in-Err.new.self.items ≡ insert c.self.inside.fixtures.items c.in-Err.place c.args.fixture
fixtures_are c =
    let fits = c.insert-in-Err.ensures.succeeds (omega (arith, c.in_ok-reserve-in-Err.ensures.ok)) in
    let old : c.reserve.new.self.items ≡ c.self.inside.fixtures.items = c.reserve.ensures.items in
    grind (arith, common_steps, fits, old, c.insert-in-Err.ensures.items)

pub invariant_of-self-in-Err : goal.invariant_of-self-in-Err
invariant_of-self-in-Err c =
    let gap : IsGap c.self.inside.fixtures.items c.args.fixture c.in-Err.place = rw c.deref.ensures.value at c.in-Err.ensures in
    rw (fixtures_are c, c.in_ok-insert-in-Err.ensures.items) (table_insert c.self.inside.fixtures.items c.self.inside.sheets.items c.self.invariant c.args.fixture c.in-Err.place c.args.sheet gap)

pub returns-in_ok-insert-in-Err-clause-ok : goal.returns-in_ok-insert-in-Err-clause-ok
returns-in_ok-insert-in-Err-clause-ok c =
    let gap : IsGap c.self.inside.fixtures.items c.args.fixture c.in-Err.place = rw c.deref.ensures.value at c.in-Err.ensures in
    rw (fixtures_are c, c.in_ok-insert-in-Err.ensures.items, ← c.self.view_is) (insert_sheet c.self.inside.fixtures.items c.self.inside.sheets.items c.self.invariant c.args.fixture c.in-Err.place c.args.sheet gap)

pub returns-in_ok-insert-in-Err-clause-sorted : goal.returns-in_ok-insert-in-Err-clause-sorted
returns-in_ok-insert-in-Err-clause-sorted c =
    let gap : IsGap c.self.inside.fixtures.items c.args.fixture c.in-Err.place = rw c.deref.ensures.value at c.in-Err.ensures in
    rw (fixtures_are c, c.in_ok-insert-in-Err.ensures.items) (sorted_table _ _ (table_insert c.self.inside.fixtures.items c.self.inside.sheets.items c.self.invariant c.args.fixture c.in-Err.place c.args.sheet gap))
