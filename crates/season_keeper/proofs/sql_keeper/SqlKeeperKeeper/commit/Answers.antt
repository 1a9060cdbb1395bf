use Rattle.std.proofs.Common.{rules, ◌≡◌, true, sym, subst}
use Rattle.sqlite.specs.State.{HasCleanDisk}
use Rattle.sqlite.specs.Held.{Held, state}
use Rattle.fpl_base.specs.Keeping.{applied}
use Rattle.season_keeper.specs.Holding.{Finds, Keeps, LeavesNewly, LeavesOnly}
use Rattle.season_keeper.proofs.Keeping.{only_of, alone_by, batch_leaves, stops_by}
use Rattle.season_keeper.proofs.sql_keeper.SqlKeeperKeeper.commit.Goals as goal

pub returns-in-Ok-true-clause-leaves_only : goal.returns-in-Ok-true-clause-leaves_only
returns-in-Ok-true-clause-leaves_only g c clean m held =
    let new = state g.S.Store c.apply.new.conn in
    let ready : c.args.self.now.ready ≡ true = search rules in
    let keeps : Keeps (state g.S.Store c.args.self.now.conn).now m = subst (λ b. Finds (state g.S.Store c.args.self.now.conn).now b m) ready held.finds in
    let same : c.self.inside.conn ≡ c.args.self.now.conn = search rules in
    let settled = c.in-Ok-true.ensures.settled clean c.in-Ok-true.field-0-test in
    let P = λ (h : Held g.row.S.Denot). Keeps (state g.S.Store h).now m → LeavesOnly new (applied m c.args.ops.now) in
    subst P same (λ it. only_of new (applied m c.args.ops.now) (λ db. g.met.S.Store.settled c.apply.new.conn.store db settled.0) settled.2 (c.in-Ok-true.ensures.applied clean m it c.in-Ok-true.field-0-test)) keeps

pub returns-in-Ok-true-clause-alone : goal.returns-in-Ok-true-clause-alone
returns-in-Ok-true-clause-alone g c clean m held = alone_by (state g.S.Store c.apply.new.conn) (applied m c.args.ops.now) (returns-in-Ok-true-clause-leaves_only g c clean m held)

pub returns-in-Ok-true-clause-leaves : goal.returns-in-Ok-true-clause-leaves
returns-in-Ok-true-clause-leaves g c clean m held =
    let new = state g.S.Store c.apply.new.conn in
    let ready : c.args.self.now.ready ≡ true = search rules in
    let keeps : Keeps (state g.S.Store c.args.self.now.conn).now m = subst (λ b. Finds (state g.S.Store c.args.self.now.conn).now b m) ready held.finds in
    let same : c.self.inside.conn ≡ c.args.self.now.conn = search rules in
    let P = λ (h : Held g.row.S.Denot). Keeps (state g.S.Store h).now m → LeavesNewly (state g.S.Store h) new (applied m c.args.ops.now) in
    subst P same (λ it. batch_leaves (state g.S.Store c.self.inside.conn) new c.args.ops.now m c.apply.ensures.crash clean it) keeps

pub returns-in-Ok-true-clause-stops : goal.returns-in-Ok-true-clause-stops
returns-in-Ok-true-clause-stops g c clean m held = stops_by (state g.S.Store c.args.self.now.conn) (state g.S.Store c.apply.new.conn) (applied m c.args.ops.now) (returns-in-Ok-true-clause-leaves g c clean m held)

pub returns-in-Err-clause-leaves : goal.returns-in-Err-clause-leaves
returns-in-Err-clause-leaves g c clean m held =
    let ready : c.args.self.now.ready ≡ true = search rules in
    let keeps : Keeps (state g.S.Store c.args.self.now.conn).now m = subst (λ b. Finds (state g.S.Store c.args.self.now.conn).now b m) ready held.finds in
    let same : c.self.inside.conn ≡ c.args.self.now.conn = search rules in
    let moved : c.fault-in-Err.new.self.conn ≡ c.apply.new.conn = search rules in
    let clean_1 : HasCleanDisk (state g.S.Store c.apply.new.conn) = subst (λ h. HasCleanDisk (state g.S.Store h)) moved clean in
    let P = λ (h : Held g.row.S.Denot). Keeps (state g.S.Store h).now m → LeavesNewly (state g.S.Store h) (state g.S.Store c.apply.new.conn) (applied m c.args.ops.now) in
    subst (λ (h : Held g.row.S.Denot). LeavesNewly (state g.S.Store c.args.self.now.conn) (state g.S.Store h) (applied m c.args.ops.now)) (sym moved)
    (subst P same (λ it. batch_leaves (state g.S.Store c.self.inside.conn) (state g.S.Store c.apply.new.conn) c.args.ops.now m c.apply.ensures.crash clean_1 it) keeps)

pub returns-in-Err-clause-stops : goal.returns-in-Err-clause-stops
returns-in-Err-clause-stops g c clean m held = stops_by (state g.S.Store c.args.self.now.conn) (state g.S.Store c.fault-in-Err.new.self.conn) (applied m c.args.ops.now) (returns-in-Err-clause-leaves g c clean m held)
