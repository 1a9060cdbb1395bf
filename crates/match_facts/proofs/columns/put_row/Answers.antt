use Rattle.std.proofs.Common.{◌≡◌, arith}
use Rattle.std.specs.List.{insert}
use Rattle.std.proofs.lemmas.Grind.{common_steps}
use Rattle.match_facts.specs.Columns.{IsPlace, IsGap}
use Rattle.match_facts.proofs.ColumnLemmas.{zip-set, zip-insert, columns-insert}
use Rattle.match_facts.proofs.columns.put_row.Goals as goal

pub returns-in-Ok-clause-ok : goal.returns-in-Ok-clause-ok
returns-in-Ok-clause-ok c =
    let place : IsPlace c.args.players.now.items c.args.player c.in-Ok.place = rw c.deref.ensures.value at c.in-Ok.ensures in
    zip-set c.args.players.now.items c.args.lines.now.items c.args.player c.in-Ok.place c.args.line.now c.requires.columns.ascending c.requires.columns.paired place

-- the player goes into the room that was made for him
players_are : (c : goal.After-insert-in-Err) → c.insert-in-Err.new.self.items ≡ insert c.args.players.now.items c.in-Err.place c.args.player
players_are c =
    let fits = c.insert-in-Err.ensures.succeeds (omega (arith, c.in_ok-reserve-in-Err.ensures.ok)) in
    let old : c.reserve.new.self.items ≡ c.args.players.now.items = c.reserve.ensures.items in
    grind (arith, common_steps, fits, old, c.insert-in-Err.ensures.items)

pub returns-in_ok-insert-in-Err-clause-columns : goal.returns-in_ok-insert-in-Err-clause-columns
returns-in_ok-insert-in-Err-clause-columns c =
    let gap : IsGap c.args.players.now.items c.args.player c.in-Err.place = rw c.deref.ensures.value at c.in-Err.ensures in
    rw (players_are c, c.in_ok-insert-in-Err.ensures.items)
    (columns-insert c.args.players.now.items c.args.lines.now.items c.args.player c.in-Err.place c.args.line.now c.requires.columns gap c.requires.room)

pub returns-in_ok-insert-in-Err-clause-ok : goal.returns-in_ok-insert-in-Err-clause-ok
returns-in_ok-insert-in-Err-clause-ok c =
    let gap : IsGap c.args.players.now.items c.args.player c.in-Err.place = rw c.deref.ensures.value at c.in-Err.ensures in
    rw (players_are c, c.in_ok-insert-in-Err.ensures.items)
    (zip-insert c.args.players.now.items c.args.lines.now.items c.args.player c.in-Err.place c.args.line.now c.requires.columns.paired gap)
