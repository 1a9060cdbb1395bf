use Rattle.sqlite.specs.Held.{state}
use Rattle.season_keeper.proofs.Batches.{statement_inside, put_line_step, put_record_step}
use Rattle.season_keeper.proofs.batch.put.Goals as goal

pub returns-then-key-eq-LINE-clause-made : goal.returns-then-key-eq-LINE-clause-made
returns-then-key-eq-LINE-clause-made g c clean mode =
    let old = state g.S.Store c.args.tx.now.conn.now in
    let new = state g.S.Store c.execute.new.self.conn.now in
    statement_inside old new _ _ c.execute.result _ (c.execute.ensures.runs clean mode) (λ count ran m keeps. put_line_step old new count c.args.key.now m keeps c.args.body.now c.if-key-eq-LINE.true
    (rw (c.params-to_sql.ensures, c.params-to_sql-then-key-eq-LINE.ensures, c.params-to_sql-then-key-eq-LINE-2.ensures, c.params-to_sql-then-key-eq-LINE-3.ensures) at ran))

pub returns-clause-made : goal.returns-clause-made
returns-clause-made g c clean mode =
    let old = state g.S.Store c.args.tx.now.conn.now in
    let new = state g.S.Store c.execute-2.new.self.conn.now in
    statement_inside old new _ _ c.execute-2.result _ (c.execute-2.ensures.runs clean mode) (λ count ran m keeps. put_record_step old new count c.args.key.now m keeps c.args.body.now c.if-key-eq-LINE.false
    (rw (c.params-to_sql-2.ensures, c.params-to_sql-3.ensures, c.params-to_sql-4.ensures, c.params-to_sql-5.ensures, c.params-to_sql-6.ensures, c.from.ensures) at ran))
