use Rattle.std.proofs.Common.{rules, arith, ◌≡◌, IsTrue, refl, sym, subst}
use Rattle.sqlite.specs.State.{HasCleanDisk, Survives}
use Rattle.sqlite.specs.Held.{Held, state}
use Rattle.sqlite.specs.Effect.{Database}
use Rattle.fpl_base.specs.Keeping.{map_of}
use Rattle.season_keeper.specs.Holding.{Store, Tells, Keeps, Finds, Moved, finds_tells}
use Rattle.season_keeper.proofs.Batches.{Leaves, commit_crash, begun_inside, begun_survives}
use Rattle.season_keeper.proofs.Keeping.{keeps_finds, moved_tells}
use Rattle.season_keeper.proofs.store.load_pairs.Goals as goal

pub returns-in_err-commit-clause-crash : goal.returns-in_err-commit-clause-crash
returns-in_err-commit-clause-crash g c =
    let conn = c.args.conn.now in
    let begun = c.transaction-tx.result.conn.now in
    let read = c.load_records.new.tx.conn.now in
    let end = c.commit.new.self.0 in
    let same : end ≡ c.conn-2-1.given.0 = search rules in
    let P = Leaves (Moved (state g.S.Store conn).now) in
    subst (λ h. Survives (state g.S.Store conn) (state g.S.Store h) P) same
    (commit_crash g.S.Store conn read end (Moved (state g.S.Store conn).now) (begun_survives g.S.Store conn begun read c.transaction-tx.ensures.begun c.load_records.ensures.survives) c.commit.ensures.survives
    (λ clean. begun_inside g.S.Store conn begun read c.transaction-tx.ensures.begun Moved (c.in_ok-pairs.ensures.made clean)))

pub returns-clause-crash : goal.returns-clause-crash
returns-clause-crash g c =
    let conn = c.args.conn.now in
    let begun = c.transaction-tx.result.conn.now in
    let read = c.load_records.new.tx.conn.now in
    let end = c.commit.new.self.0 in
    let same : end ≡ c.conn-2-1.given.0 = search rules in
    let P = Leaves (Moved (state g.S.Store conn).now) in
    subst (λ h. Survives (state g.S.Store conn) (state g.S.Store h) P) same
    (commit_crash g.S.Store conn read end (Moved (state g.S.Store conn).now) (begun_survives g.S.Store conn begun read c.transaction-tx.ensures.begun c.load_records.ensures.survives) c.commit.ensures.survives
    (λ clean. begun_inside g.S.Store conn begun read c.transaction-tx.ensures.begun Moved (c.in_ok-pairs.ensures.made clean)))

pub returns-clause-gave : goal.returns-clause-gave
returns-clause-gave g c clean was =
    let read = state g.S.Store c.load_records.new.tx.conn.now in
    let end = c.commit.new.self.0 in
    let same : end ≡ c.conn-2-1.given.0 = search rules in
    let last : HasCleanDisk (state g.S.Store end) = search rules in
    let early : HasCleanDisk read = omega (arith, c.commit.ensures.survives.clean) in
    let m = map_of c.in-Some.pairs.items in
    let Q = λ (h : Held g.row.S.Denot). IsTrue (state g.S.Store h).in_transaction → Store (state g.S.Store h).now → Tells (state g.S.Store h).now m × Keeps read.now m in
    let it = subst Q c.transaction-tx.ensures.begun (rw c.in-Some.is at (c.in_ok-pairs.ensures.gave early)) refl was in
    let ok = c.in_ok-commit.ensures.ok last in
    let P = λ (h : Held g.row.S.Denot). Keeps (state g.S.Store h).now m in
    (it.0, subst P same (subst (λ (d : Database). Keeps d m) (sym ok.1.now_is) it.1))

pub returns-clause-kept : goal.returns-clause-kept
returns-clause-kept g c clean open_ ready m found =
    let conn = c.args.conn.now in
    let old = (state g.S.Store conn).now in
    let begun = c.transaction-tx.result.conn.now in
    let read = state g.S.Store c.load_records.new.tx.conn.now in
    let end = c.commit.new.self.0 in
    let same : end ≡ c.conn-2-1.given.0 = search rules in
    let last : HasCleanDisk (state g.S.Store end) = search rules in
    let early : HasCleanDisk read = omega (arith, c.commit.ensures.survives.clean) in
    let made = begun_inside g.S.Store conn begun c.load_records.new.tx.conn.now c.transaction-tx.ensures.begun Moved (c.in_ok-pairs.ensures.made early) in
    let keeps = keeps_finds read.now ready m (moved_tells old read.now m made.makes (finds_tells old ready m found)) in
    let ok = c.in_ok-commit.ensures.ok last in
    let P = λ (h : Held g.row.S.Denot). Finds (state g.S.Store h).now ready m in
    subst P same (subst (λ (d : Database). Finds d ready m) (sym ok.1.now_is) keeps)
