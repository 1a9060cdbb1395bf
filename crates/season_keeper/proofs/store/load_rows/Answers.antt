use Rattle.std.proofs.Common.{arith, sym, subst}
use Rattle.sqlite.specs.State.{HasCleanDisk}
use Rattle.sqlite.specs.Held.{state}
use Rattle.sqlite.specs.Effect.{Database}
use Rattle.season_keeper.specs.Rows.{IsReading}
use Rattle.season_keeper.specs.Holding.{records_of, lines_of, Moves, Moved}
use Rattle.season_keeper.proofs.Batches.{inside_then, on_ok, ok_both}
use Rattle.season_keeper.proofs.Moving.{grown_moves}
use Rattle.season_keeper.proofs.store.load_rows.Goals as goal

pub returns-clause-made : goal.returns-clause-made
returns-clause-made g c clean mode =
    let old = state g.S.Store c.args.tx.now.conn.now in
    let one = state g.S.Store c.make_tables.new.tx.conn.now in
    let two = state g.S.Store c.move_lines.new.tx.conn.now in
    let new = state g.S.Store c.read_rows.new.tx.conn.now in
    let later : HasCleanDisk two = omega (arith, c.read_rows.ensures.survives.clean) in
    let early : HasCleanDisk one = omega (arith, c.move_lines.ensures.survives.clean) in
    let grown = c.in_ok-make_tables.ensures.made early mode in
    let moved = c.in_ok-move_lines.ensures.made later grown.mode in
    let both = inside_then old one two _ _ (Moved old.now) grown moved (λ grows moves was. grown_moves old.now one.now two.now was (grows was) (moves (grows was).store (grows was).both)) in
    on_ok c.read_rows.result (λ same. inside_then old two new (Moved old.now) _ (Moved old.now) both same
    (λ moves rests was. subst (λ db. Moves old.now db was) (sym (rests (moves was).store (moves was).both)) (moves was))) (c.read_rows.ensures.made clean moved.mode)

pub returns-clause-read : goal.returns-clause-read
returns-clause-read g c clean mode was =
    let old = state g.S.Store c.args.tx.now.conn.now in
    let one = state g.S.Store c.make_tables.new.tx.conn.now in
    let two = state g.S.Store c.move_lines.new.tx.conn.now in
    let new = state g.S.Store c.read_rows.new.tx.conn.now in
    let later : HasCleanDisk two = omega (arith, c.read_rows.ensures.survives.clean) in
    let early : HasCleanDisk one = omega (arith, c.move_lines.ensures.survives.clean) in
    let grown = c.in_ok-make_tables.ensures.made early mode in
    let moved = c.in_ok-move_lines.ensures.made later grown.mode in
    let grows = grown.makes was in
    let moves = grown_moves old.now one.now two.now was grows (moved.makes grows.store grows.both) in
    ok_both c.read_rows.result (c.read_rows.ensures.made clean moved.mode) (c.read_rows.ensures.read clean moves.store moves.both)
    (λ rows same reading. subst (λ (db : Database). (it : Moves old.now db was) × IsReading (records_of it.store) (lines_of it.store) rows.items) (sym (same.makes moves.store moves.both)) (moves, reading))
