use Rattle.std.proofs.Common.{take, ◌≡◌, IsTrue, true, false, refl, sym, subst, rules, arith, ◌∙◌}
use Rattle.std.proofs.lemmas.List.{take_all}
use Rattle.sqlite_trees.specs.Tree.{Trees}
use Rattle.sqlite.specs.Effect.{Database}
use Rattle.sqlite.specs.State.{HasCleanDisk, Survives}
use Rattle.sqlite.specs.Held.{Held, state}
use Rattle.fpl_base.specs.Keeping.{Map, applied}
use Rattle.season_keeper.specs.Holding.{Keeps, Inside}
use Rattle.season_keeper.proofs.Batches.{Applied, survives_same, survives_both, applied_more, given_up, given_up_crash, on_err, commit_failed, commit_crash, commit_was_open, Leaves}
use Rattle.season_keeper.proofs.batch.apply.Goals as goal

pub each-init : goal.each-init
each-init g c =
    let begun = c.transaction-tx.ensures.begun in
    (refl, rw begun (survives_same (state g.S.Store (record c.args.conn.now { in_transaction = true }))), λ clean. rw begun (record { was_open = λ h. h; mode = refl; committed = refl; makes = λ m keeps. keeps }))

pub returns-in_err-change-clause-undone : goal.returns-in_err-change-clause-undone
returns-in_err-change-clause-undone g c clean open_ =
    let old = state g.S.Store c.args.conn.now in
    let mid = state g.S.Store c.each.tx.conn.now in
    let failed = state g.S.Store c.change.new.tx.conn.now in
    let end = c.drop-tx.new.self.0 in
    let same : end ≡ c.conn-1.given.0 = search rules in
    let last : HasCleanDisk (state g.S.Store end) = search rules in
    let late : HasCleanDisk failed = omega (arith, c.drop-tx.ensures.survives.clean) in
    let early : HasCleanDisk mid = omega (arith, c.change.ensures.survives.clean) in
    let it = c.each.invariant.2 early in
    let auto : IsTrue c.is_autocommit.result = search rules in
    let P = λ (h : Held g.row.S.Denot). ((state g.S.Store h).now ≡ old.now) × ((state g.S.Store h).committed ≡ old.committed) in
    let still : IsTrue (state g.S.Store end).is_open = subst (λ h. IsTrue (state g.S.Store h).is_open) (sym same) open_ in
    on_err _ (subst P same (given_up old mid failed (state g.S.Store end) _ (c.is_autocommit.ensures.settled auto) it (c.in_err-change.ensures.undone late it.mode) (c.drop-tx.ensures.undone last) still))

pub returns-in_err-change-clause-crash : goal.returns-in_err-change-clause-crash
returns-in_err-change-clause-crash g c =
    let end = c.drop-tx.new.self.0 in
    let same : end ≡ c.conn-1.given.0 = search rules in
    let P = λ (trees : Trees). (db : Database) × (trees ≡ db.trees) × ((m : Map) → Keeps (state g.S.Store c.args.conn.now).now m → Keeps db (applied m c.args.ops.now)) in
    subst (λ h. Survives (state g.S.Store c.args.conn.now) (state g.S.Store h) P) same
    (given_up_crash g.S.Store c.args.conn.now c.each.tx.conn.now c.change.new.tx.conn.now end P c.each.invariant.1 c.change.ensures.survives c.drop-tx.ensures.survives)

pub returns-in_err-change-clause-was_open : goal.returns-in_err-change-clause-was_open
returns-in_err-change-clause-was_open g c clean open_ =
    let mid = state g.S.Store c.each.tx.conn.now in
    let end = c.drop-tx.new.self.0 in
    let same : end ≡ c.conn-1.given.0 = search rules in
    let last : HasCleanDisk (state g.S.Store end) = search rules in
    let still : IsTrue (state g.S.Store end).is_open = subst (λ h. IsTrue (state g.S.Store h).is_open) (sym same) open_ in
    let failed = state g.S.Store c.change.new.tx.conn.now in
    let late : HasCleanDisk failed = omega (arith, c.drop-tx.ensures.survives.clean) in
    let early : HasCleanDisk mid = omega (arith, c.change.ensures.survives.clean) in
    let it = c.each.invariant.2 early in
    it.was_open ((c.in_err-change.ensures.undone late it.mode).was_open ((c.drop-tx.ensures.undone last).was_open still))

pub each-preserved : goal.each-preserved
each-preserved g c = (
  c.in_ok-change.ensures.same_reference ∙ c.each.invariant.0,
  survives_both _ _ _ c.each.invariant.1 c.change.ensures.survives,
  λ clean.
      let mid = state g.S.Store c.each.tx.conn.now in
      let new = state g.S.Store c.change.new.tx.conn.now in
      let early : HasCleanDisk mid = omega (arith, c.change.ensures.survives.clean) in
      let it = c.each.invariant.2 early in
      applied_more (state g.S.Store c.args.conn.now) mid new c.args.ops.now c.each.op-index c.op-item.result c.each-test.true c.op-item.is it (c.in_ok-change.ensures.made clean it.mode),
)

pub returns-in_err-commit-clause-undone : goal.returns-in_err-commit-clause-undone
returns-in_err-commit-clause-undone g c clean open_ =
    let old = state g.S.Store c.args.conn.now in
    let mid = state g.S.Store c.each.tx.conn.now in
    let end = c.commit.new.self.0 in
    let same : end ≡ c.conn-2-1.given.0 = search rules in
    let last : HasCleanDisk (state g.S.Store end) = search rules in
    let early : HasCleanDisk mid = omega (arith, c.commit.ensures.survives.clean) in
    let it = c.each.invariant.2 early in
    let auto : IsTrue c.is_autocommit.result = search rules in
    let P = λ (h : Held g.row.S.Denot). ((state g.S.Store h).now ≡ old.now) × ((state g.S.Store h).committed ≡ old.committed) in
    let still : IsTrue (state g.S.Store end).is_open = subst (λ h. IsTrue (state g.S.Store h).is_open) (sym same) open_ in
    on_err _ (subst P same (commit_failed old mid (state g.S.Store end) _ _ (c.is_autocommit.ensures.settled auto) it (c.in_err-commit.ensures.err last) still))

pub returns-in_err-commit-clause-crash : goal.returns-in_err-commit-clause-crash
returns-in_err-commit-clause-crash g c =
    let end = c.commit.new.self.0 in
    let same : end ≡ c.conn-2-1.given.0 = search rules in
    let whole : take c.each.op-index c.args.ops.now ≡ c.args.ops.now = take_all c.each.op-index c.args.ops.now c.each-test.false in
    subst (λ h. Survives (state g.S.Store c.args.conn.now) (state g.S.Store h) (Leaves (Applied (state g.S.Store c.args.conn.now).now c.args.ops.now))) same
    (commit_crash g.S.Store c.args.conn.now c.each.tx.conn.now end (Applied (state g.S.Store c.args.conn.now).now c.args.ops.now) c.each.invariant.1 c.commit.ensures.survives (λ early. subst (λ ops. Inside (state g.S.Store c.args.conn.now) (state g.S.Store c.each.tx.conn.now) (Applied (state g.S.Store c.args.conn.now).now ops)) whole (c.each.invariant.2 early)))

pub returns-clause-applied : goal.returns-clause-applied
returns-clause-applied g c clean m keeps done =
    let end = c.commit.new.self.0 in
    let same : end ≡ c.conn-2-1.given.0 = search rules in
    let last : HasCleanDisk (state g.S.Store end) = search rules in
    let early : HasCleanDisk (state g.S.Store c.each.tx.conn.now) = omega (arith, c.commit.ensures.survives.clean) in
    let whole : take c.each.op-index c.args.ops.now ≡ c.args.ops.now = take_all c.each.op-index c.args.ops.now c.each-test.false in
    let it = subst (λ ops. Inside (state g.S.Store c.args.conn.now) (state g.S.Store c.each.tx.conn.now) (Applied (state g.S.Store c.args.conn.now).now ops)) whole (c.each.invariant.2 early) in
    let ok = c.in_ok-commit.ensures.ok last in
    let P = λ (h : Held g.row.S.Denot). Keeps (state g.S.Store h).now (applied m c.args.ops.now) in
    subst P same (subst (λ d. Keeps d (applied m c.args.ops.now)) (sym ok.1.now_is) (it.makes m keeps))

pub returns-clause-settled : goal.returns-clause-settled
returns-clause-settled g c clean done =
    let end = c.commit.new.self.0 in
    let same : end ≡ c.conn-2-1.given.0 = search rules in
    let last : HasCleanDisk (state g.S.Store end) = search rules in
    let ok = c.in_ok-commit.ensures.ok last in
    let P = λ (h : Held g.row.S.Denot). IsTrue (state g.S.Store h).is_open × ((state g.S.Store h).in_transaction ≡ false) × ((state g.S.Store h).committed ≡ (state g.S.Store h).now) in
    subst P same (ok.1.is_open, ok.1.mode, ok.1.committed_is ∙ sym ok.1.now_is)

pub returns-clause-crash : goal.returns-clause-crash
returns-clause-crash g c =
    let end = c.commit.new.self.0 in
    let same : end ≡ c.conn-2-1.given.0 = search rules in
    let whole : take c.each.op-index c.args.ops.now ≡ c.args.ops.now = take_all c.each.op-index c.args.ops.now c.each-test.false in
    subst (λ h. Survives (state g.S.Store c.args.conn.now) (state g.S.Store h) (Leaves (Applied (state g.S.Store c.args.conn.now).now c.args.ops.now))) same
    (commit_crash g.S.Store c.args.conn.now c.each.tx.conn.now end (Applied (state g.S.Store c.args.conn.now).now c.args.ops.now) c.each.invariant.1 c.commit.ensures.survives (λ early. subst (λ ops. Inside (state g.S.Store c.args.conn.now) (state g.S.Store c.each.tx.conn.now) (Applied (state g.S.Store c.args.conn.now).now ops)) whole (c.each.invariant.2 early)))

pub returns-in_err-commit-clause-was_open : goal.returns-in_err-commit-clause-was_open
returns-in_err-commit-clause-was_open g c clean open_ =
    let mid = state g.S.Store c.each.tx.conn.now in
    let end = c.commit.new.self.0 in
    let same : end ≡ c.conn-2-1.given.0 = search rules in
    let last : HasCleanDisk (state g.S.Store end) = search rules in
    let still : IsTrue (state g.S.Store end).is_open = subst (λ h. IsTrue (state g.S.Store h).is_open) (sym same) open_ in
    let early : HasCleanDisk mid = omega (arith, c.commit.ensures.survives.clean) in
    let it = c.each.invariant.2 early in
    it.was_open (commit_was_open mid (state g.S.Store end) _ it.mode (c.in_err-commit.ensures.err last) still)

pub returns-clause-was_open : goal.returns-clause-was_open
returns-clause-was_open g c clean open_ =
    let end = c.commit.new.self.0 in
    let same : end ≡ c.conn-2-1.given.0 = search rules in
    let last : HasCleanDisk (state g.S.Store end) = search rules in
    let early : HasCleanDisk (state g.S.Store c.each.tx.conn.now) = omega (arith, c.commit.ensures.survives.clean) in
    (c.each.invariant.2 early).was_open (c.in_ok-commit.ensures.ok last).1.was_open
