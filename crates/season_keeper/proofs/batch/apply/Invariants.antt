use Rattle.std.proofs.Common.{◌≡◌, true, take}
use Rattle.sqlite.specs.State.{HasCleanDisk, Survives}
use Rattle.sqlite.specs.Held.{state}
use Rattle.season_keeper.specs.Holding.{Inside}
use Rattle.season_keeper.proofs.Batches.{Applied}
use Rattle.season_keeper.proofs.batch.apply.Given as goal

abbrev pub invariant-each : goal.invariant-each
invariant-each g l =
    let begun = state g.S.Store (record l.fn.conn { in_transaction = true }) in
    let now = state g.S.Store l.tx.conn.now in
    (l.tx.conn.ghost_name ≡ l.initial.tx.conn.ghost_name) × Survives begun now (λ _. ⊥) × (HasCleanDisk now → Inside (state g.S.Store l.fn.conn) now (Applied (state g.S.Store l.fn.conn).now (take l.op-index l.ops)))
