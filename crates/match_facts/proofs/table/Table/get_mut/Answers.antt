use Rattle.std.proofs.Common.{Some, inl, refl, sym, ap, ◌∙◌}
use Rattle.match_facts.specs.Columns.{IsPlace, IsGap}
use Rattle.match_facts.proofs.ColumnLemmas.{line_here, none_here}
use Rattle.match_facts.proofs.TableLemmas.{write_sheet}
use Rattle.match_facts.proofs.table.Table.get_mut.Goals as goal

pub returns-in-Ok : goal.returns-in-Ok
returns-in-Ok c =
    let place : IsPlace c.self.inside.fixtures.items c.args.fixture c.in-Ok.place = rw c.deref.ensures.value at c.in-Ok.ensures in
    rw (← c.self.view_is) (
      (λ i. inl (c.index_mut.result.ghost_name, λ w. write_sheet c.self.inside.fixtures.items c.self.inside.sheets.items c.self.invariant c.args.fixture c.in-Ok.place w place i)),
      record { writes_back = tt; value = ap Some c.index_mut.ensures.value ∙ sym (line_here c.self.inside.fixtures.items c.self.inside.sheets.items c.args.fixture c.in-Ok.place _ c.self.invariant.ascending c.self.invariant.paired place) },
    )

pub returns-in-Err : goal.returns-in-Err
returns-in-Err c =
    let gap : IsGap c.self.inside.fixtures.items c.args.fixture c.in-Err.field-0 = rw c.deref.ensures.value at c.in-Err.ensures in
    rw (← c.self.view_is) (refl, record { writes_back = tt; value = sym (none_here c.self.inside.fixtures.items c.self.inside.sheets.items c.args.fixture c.in-Err.field-0 gap) })
