use Rattle.match_facts.specs.Columns.{IsPlace, IsGap}
use Rattle.match_facts.proofs.ColumnLemmas.{zip-remove, zip-gap, columns-remove}
use Rattle.match_facts.proofs.columns.remove_row.Goals as goal

pub returns-in-Ok-clause-columns : goal.returns-in-Ok-clause-columns
returns-in-Ok-clause-columns c =
    let place : IsPlace c.args.players.now.items c.args.player c.in-Ok.place = rw c.deref.ensures.value at c.in-Ok.ensures in
    rw (c.remove.ensures.items, c.remove-in-Ok.ensures.items) (columns-remove c.args.players.now.items c.args.lines.now.items c.args.player c.in-Ok.place c.requires place)

pub returns-in-Ok-clause-rows : goal.returns-in-Ok-clause-rows
returns-in-Ok-clause-rows c =
    let place : IsPlace c.args.players.now.items c.args.player c.in-Ok.place = rw c.deref.ensures.value at c.in-Ok.ensures in
    rw (c.remove.ensures.items, c.remove-in-Ok.ensures.items)
    (zip-remove c.args.players.now.items c.args.lines.now.items c.args.player c.in-Ok.place c.requires.ascending c.requires.paired place)

pub returns-in-Err-clause-rows : goal.returns-in-Err-clause-rows
returns-in-Err-clause-rows c =
    let gap : IsGap c.args.players.now.items c.args.player c.in-Err.field-0 = rw c.deref.ensures.value at c.in-Err.ensures in
    zip-gap c.args.players.now.items c.args.lines.now.items c.args.player c.in-Err.field-0 c.requires.paired gap
