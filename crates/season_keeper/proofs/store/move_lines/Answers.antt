use Rattle.std.proofs.Common.{arith}
use Rattle.sqlite.specs.State.{HasCleanDisk}
use Rattle.sqlite.specs.Held.{state}
use Rattle.season_keeper.proofs.Batches.{two_inside}
use Rattle.season_keeper.proofs.Moving.{moves}
use Rattle.season_keeper.proofs.store.move_lines.Goals as goal

pub returns-clause-made : goal.returns-clause-made
returns-clause-made g c clean mode =
    let old = state g.S.Store c.args.tx.now.conn.now in
    let mid = state g.S.Store c.execute.new.self.conn.now in
    let new = state g.S.Store c.execute-2.new.self.conn.now in
    let early : HasCleanDisk mid = omega (arith, c.execute-2.ensures.survives.clean) in
    let first = c.in_ok-execute.ensures.runs early mode in
    two_inside old mid new _ _ _ _ c.in_ok-execute.field-0 c.execute-2.result _ first (c.execute-2.ensures.runs clean first.1.mode)
    (λ more inserted cleared was both. moves old mid new c.in_ok-execute.field-0 more was both inserted cleared)
