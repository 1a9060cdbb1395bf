use Rattle.sqlite.specs.Held.{state}
use Rattle.fpl_base.specs.Keeping.{map_of}
use Rattle.season_keeper.specs.Holding.{Moved, records_of, lines_of}
use Rattle.season_keeper.proofs.Batches.{inside_commit, so_ok, on_err}
use Rattle.season_keeper.proofs.Pairing.{both_ok, reading_holds, moved_keeps}
use Rattle.season_keeper.proofs.store.load_records.Goals as goal

pub returns-clause-made : goal.returns-clause-made
returns-clause-made g c clean mode = so_ok c.pairs_of.result (c.in_ok-rows.ensures.made clean mode)

pub returns-clause-gave : goal.returns-clause-gave
returns-clause-gave g c clean mode was =
    let old = (state g.S.Store c.args.tx.now.conn.now).now in
    let new = (state g.S.Store c.load_rows.new.tx.conn.now).now in
    let read = c.in_ok-rows.ensures.read clean mode was in
    both_ok c.pairs_of.result (λ pairs each rise. moved_keeps old new was (map_of pairs.items) read.0
    (reading_holds (records_of read.0.store) (lines_of read.0.store) c.in_ok-rows.rows.items pairs.items read.1 each rise)) c.pairs_of.ensures.shown c.pairs_of.ensures.rise

pub returns-clause-undone : goal.returns-clause-undone
returns-clause-undone g c clean mode =
    let old = state g.S.Store c.args.tx.now.conn.now in
    let new = state g.S.Store c.load_rows.new.tx.conn.now in
    on_err c.pairs_of.result (inside_commit old new (Moved old.now) (c.in_ok-rows.ensures.made clean mode))
