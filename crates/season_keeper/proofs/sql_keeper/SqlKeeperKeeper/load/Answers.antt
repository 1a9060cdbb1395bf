use Rattle.std.proofs.Common.{rules, ◌≡◌, false, IsTrue, ap, sym, subst}
use Rattle.sqlite.specs.State.{HasCleanDisk}
use Rattle.sqlite.specs.Held.{Held, state}
use Rattle.sqlite.specs.Effect.{Database}
use Rattle.fpl_base.specs.Keeping.{map_of}
use Rattle.season_keeper.specs.Holding.{Store, Tells, Keeps, HoldsMap, LeavesNewly, finds_tells, tells_one}
use Rattle.season_keeper.proofs.Keeping.{alone_by, gave_keeps, only_of, reading_leaves, told_before}
use Rattle.season_keeper.proofs.sql_keeper.SqlKeeperKeeper.load.Goals as goal

pub returns-in-Ok-Some-clause-gave : goal.returns-in-Ok-Some-clause-gave
returns-in-Ok-Some-clause-gave g c clean m held =
    let same : c.self.inside.conn ≡ c.args.self.now.conn = search rules in
    subst (λ (h : Held g.row.S.Denot). HoldsMap (state g.S.Store h) c.args.self.now.ready m → m ≡ map_of c.in-Ok-Some.pairs.items) same
    (λ it.
    let tells = finds_tells (state g.S.Store c.self.inside.conn).now c.args.self.now.ready m it.finds in
    tells_one _ m _ tells (rw c.in-Ok-Some.field-0-is at (c.in-Ok-Some.ensures.gave clean tells.store)).0) held

pub returns-in-Ok-Some-clause-leaves_only : goal.returns-in-Ok-Some-clause-leaves_only
returns-in-Ok-Some-clause-leaves_only g c clean m held =
    let new = state g.S.Store c.load_pairs.new.conn in
    let same : c.self.inside.conn ≡ c.args.self.now.conn = search rules in
    let keeps = subst (λ (h : Held g.row.S.Denot). HoldsMap (state g.S.Store h) c.args.self.now.ready m → Keeps new.now m) same
    (λ it.
    let tells = finds_tells (state g.S.Store c.self.inside.conn).now c.args.self.now.ready m it.finds in
    gave_keeps _ new.now m _ tells (rw c.in-Ok-Some.field-0-is at (c.in-Ok-Some.ensures.gave clean tells.store))) held in
    let settled = rw c.in-Ok-Some.field-0-is at (c.in-Ok-Some.ensures.settled clean) in
    only_of new m (λ db. g.met.S.Store.settled c.load_pairs.new.conn.store db settled.0) settled.2 keeps

pub returns-in-Ok-Some-clause-alone : goal.returns-in-Ok-Some-clause-alone
returns-in-Ok-Some-clause-alone g c clean m held = alone_by (state g.S.Store c.load_pairs.new.conn) m (returns-in-Ok-Some-clause-leaves_only g c clean m held)

pub returns-in-Ok-Some-clause-done : goal.returns-in-Ok-Some-clause-done
returns-in-Ok-Some-clause-done g c clean m held =
    let new = state g.S.Store c.load_pairs.new.conn in
    let same : c.self.inside.conn ≡ c.args.self.now.conn = search rules in
    let keeps = subst (λ (h : Held g.row.S.Denot). HoldsMap (state g.S.Store h) c.args.self.now.ready m → Keeps new.now m) same
    (λ it.
    let tells = finds_tells (state g.S.Store c.self.inside.conn).now c.args.self.now.ready m it.finds in
    gave_keeps _ new.now m _ tells (rw c.in-Ok-Some.field-0-is at (c.in-Ok-Some.ensures.gave clean tells.store))) held in
    let settled = rw c.in-Ok-Some.field-0-is at (c.in-Ok-Some.ensures.settled clean) in
    record { open_ = settled.0; autocommit = settled.1; finds = keeps }

pub returns-in-Ok-Some-clause-leaves : goal.returns-in-Ok-Some-clause-leaves
returns-in-Ok-Some-clause-leaves g c clean m held =
    let new = state g.S.Store c.load_pairs.new.conn in
    let same : c.self.inside.conn ≡ c.args.self.now.conn = search rules in
    let P = λ (h : Held g.row.S.Denot). HoldsMap (state g.S.Store h) c.args.self.now.ready m → LeavesNewly (state g.S.Store h) new m in
    subst P same (λ it. reading_leaves (state g.S.Store c.self.inside.conn) new m c.load_pairs.ensures.crash clean (finds_tells (state g.S.Store c.self.inside.conn).now c.args.self.now.ready m it.finds)) held

pub returns-in-Ok-None-clause-leaves : goal.returns-in-Ok-None-clause-leaves
returns-in-Ok-None-clause-leaves g c clean m held =
    let same : c.self.inside.conn ≡ c.args.self.now.conn = search rules in
    let moved : c.fault.new.self.conn ≡ c.load_pairs.new.conn = search rules in
    let clean_1 : HasCleanDisk (state g.S.Store c.load_pairs.new.conn) = subst (λ h. HasCleanDisk (state g.S.Store h)) moved clean in
    let P = λ (h : Held g.row.S.Denot). HoldsMap (state g.S.Store h) c.args.self.now.ready m → LeavesNewly (state g.S.Store h) (state g.S.Store c.load_pairs.new.conn) m in
    subst (λ (h : Held g.row.S.Denot). LeavesNewly (state g.S.Store c.args.self.now.conn) (state g.S.Store h) m) (sym moved)
    (subst P same (λ it. reading_leaves (state g.S.Store c.self.inside.conn) (state g.S.Store c.load_pairs.new.conn) m c.load_pairs.ensures.crash clean_1 (finds_tells (state g.S.Store c.self.inside.conn).now c.args.self.now.ready m it.finds)) held)

pub returns-in-Err-clause-leaves : goal.returns-in-Err-clause-leaves
returns-in-Err-clause-leaves g c clean m held =
    let same : c.self.inside.conn ≡ c.args.self.now.conn = search rules in
    let moved : c.fault-in-Err.new.self.conn ≡ c.load_pairs.new.conn = search rules in
    let clean_1 : HasCleanDisk (state g.S.Store c.load_pairs.new.conn) = subst (λ h. HasCleanDisk (state g.S.Store h)) moved clean in
    let P = λ (h : Held g.row.S.Denot). HoldsMap (state g.S.Store h) c.args.self.now.ready m → LeavesNewly (state g.S.Store h) (state g.S.Store c.load_pairs.new.conn) m in
    subst (λ (h : Held g.row.S.Denot). LeavesNewly (state g.S.Store c.args.self.now.conn) (state g.S.Store h) m) (sym moved)
    (subst P same (λ it. reading_leaves (state g.S.Store c.self.inside.conn) (state g.S.Store c.load_pairs.new.conn) m c.load_pairs.ensures.crash clean_1 (finds_tells (state g.S.Store c.self.inside.conn).now c.args.self.now.ready m it.finds)) held)

pub returns-in-Ok-Some-clause-stops : goal.returns-in-Ok-Some-clause-stops
returns-in-Ok-Some-clause-stops g c clean m held =
    let old = state g.S.Store c.args.self.now.conn in
    let same : c.self.inside.conn ≡ c.args.self.now.conn = search rules in
    let whole = subst (λ (h : Held g.row.S.Denot). IsTrue (state g.S.Store h).is_open → (state g.S.Store h).in_transaction ≡ false → (state g.S.Store h).now ≡ (state g.S.Store h).committed) same c.load_pairs.ensures.whole in
    let trees : old.now.trees ≡ old.committed.trees = ap (λ (d : Database). d.trees) (whole held.open_ held.autocommit) in
    let settled = subst old.may_leave (sym trees) (g.met.S.Store.stays c.args.self.now.conn.store held.open_) in
    told_before old (state g.S.Store c.load_pairs.new.conn) m (returns-in-Ok-Some-clause-leaves g c clean m held) settled (finds_tells old.now c.args.self.now.ready m held.finds)

pub returns-in-Ok-None-clause-stops : goal.returns-in-Ok-None-clause-stops
returns-in-Ok-None-clause-stops g c clean m held =
    let old = state g.S.Store c.args.self.now.conn in
    let same : c.self.inside.conn ≡ c.args.self.now.conn = search rules in
    let whole = subst (λ (h : Held g.row.S.Denot). IsTrue (state g.S.Store h).is_open → (state g.S.Store h).in_transaction ≡ false → (state g.S.Store h).now ≡ (state g.S.Store h).committed) same c.load_pairs.ensures.whole in
    let trees : old.now.trees ≡ old.committed.trees = ap (λ (d : Database). d.trees) (whole held.open_ held.autocommit) in
    let settled = subst old.may_leave (sym trees) (g.met.S.Store.stays c.args.self.now.conn.store held.open_) in
    told_before old (state g.S.Store c.fault.new.self.conn) m (returns-in-Ok-None-clause-leaves g c clean m held) settled (finds_tells old.now c.args.self.now.ready m held.finds)

pub returns-in-Err-clause-stops : goal.returns-in-Err-clause-stops
returns-in-Err-clause-stops g c clean m held =
    let old = state g.S.Store c.args.self.now.conn in
    let same : c.self.inside.conn ≡ c.args.self.now.conn = search rules in
    let whole = subst (λ (h : Held g.row.S.Denot). IsTrue (state g.S.Store h).is_open → (state g.S.Store h).in_transaction ≡ false → (state g.S.Store h).now ≡ (state g.S.Store h).committed) same c.load_pairs.ensures.whole in
    let trees : old.now.trees ≡ old.committed.trees = ap (λ (d : Database). d.trees) (whole held.open_ held.autocommit) in
    let settled = subst old.may_leave (sym trees) (g.met.S.Store.stays c.args.self.now.conn.store held.open_) in
    told_before old (state g.S.Store c.fault-in-Err.new.self.conn) m (returns-in-Err-clause-leaves g c clean m held) settled (finds_tells old.now c.args.self.now.ready m held.finds)

pub returns-in-Ok-Some-clause-only_told : goal.returns-in-Ok-Some-clause-only_told
returns-in-Ok-Some-clause-only_told g c clean store =
    let new = state g.S.Store c.load_pairs.new.conn in
    let same : c.self.inside.conn ≡ c.args.self.now.conn = search rules in
    let m = map_of c.in-Ok-Some.pairs.items in
    let P = λ (h : Held g.row.S.Denot). Store (state g.S.Store h).now → Tells (state g.S.Store h).now m × Keeps new.now m in
    subst P same (λ was. rw c.in-Ok-Some.field-0-is at (c.in-Ok-Some.ensures.gave clean was)) store
