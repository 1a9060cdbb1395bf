use Rattle.std.proofs.Common.{arith, sym, subst}
use Rattle.sqlite.specs.State.{HasCleanDisk}
use Rattle.sqlite.specs.Held.{state}
use Rattle.season_keeper.specs.Rows.{IsReading}
use Rattle.season_keeper.specs.Holding.{records_of, lines_of}
use Rattle.season_keeper.proofs.Batches.{on_err, inside_kept, inside_commit}
use Rattle.season_keeper.proofs.Loading.{query_kept, shown_inside, two_inside, two_same, two_read}
use Rattle.season_keeper.proofs.store.read_rows.Goals as goal

pub returns-in_err-rows-clause-undone : goal.returns-in_err-rows-clause-undone
returns-in_err-rows-clause-undone g c clean mode = on_err _ (query_kept _ _ _ _ _ (c.in_err-rows.ensures.err clean))

pub returns-in_err-lines-clause-undone : goal.returns-in_err-lines-clause-undone
returns-in_err-lines-clause-undone g c clean mode =
    let old = state g.S.Store c.args.tx.now.conn.now in
    let one = state g.S.Store c.query_all.new.self.conn.now in
    let new = state g.S.Store c.query_all-2.new.self.conn.now in
    let early : HasCleanDisk one = omega (arith, c.query_all-2.ensures.survives.clean) in
    on_err _ (inside_kept old one new _ (shown_inside old one _ _ _ mode (c.in_ok-rows.ensures.ok early)) (query_kept one new _ _ _ (c.in_err-lines.ensures.err clean)))

pub returns-in_err-append-clause-undone : goal.returns-in_err-append-clause-undone
returns-in_err-append-clause-undone g c clean mode =
    let old = state g.S.Store c.args.tx.now.conn.now in
    let one = state g.S.Store c.query_all.new.self.conn.now in
    let new = state g.S.Store c.query_all-2.new.self.conn.now in
    let early : HasCleanDisk one = omega (arith, c.query_all-2.ensures.survives.clean) in
    on_err _ (inside_commit old new _ (two_inside old one new _ _ _ _ _ mode (c.in_ok-rows.ensures.ok early) (c.in_ok-lines.ensures.ok clean)))

pub returns-clause-made : goal.returns-clause-made
returns-clause-made g c clean mode =
    let old = state g.S.Store c.args.tx.now.conn.now in
    let one = state g.S.Store c.query_all.new.self.conn.now in
    let new = state g.S.Store c.query_all-2.new.self.conn.now in
    let early : HasCleanDisk one = omega (arith, c.query_all-2.ensures.survives.clean) in
    let records = c.in_ok-rows.ensures.ok early in
    let lines = c.in_ok-lines.ensures.ok clean in
    let it = two_inside old one new _ _ _ _ _ mode records lines in
    record { was_open = it.was_open; mode = it.mode; committed = it.committed; makes = λ store both. two_same old one new _ _ store both records lines }

pub returns-clause-read : goal.returns-clause-read
returns-clause-read g c clean store both =
    let old = state g.S.Store c.args.tx.now.conn.now in
    let one = state g.S.Store c.query_all.new.self.conn.now in
    let new = state g.S.Store c.query_all-2.new.self.conn.now in
    let early : HasCleanDisk one = omega (arith, c.query_all-2.ensures.survives.clean) in
    subst (IsReading (records_of store) (lines_of store)) (sym c.in_ok-append.ensures.items) (two_read old one new _ _ store both (c.in_ok-rows.ensures.ok early) (c.in_ok-lines.ensures.ok clean))
