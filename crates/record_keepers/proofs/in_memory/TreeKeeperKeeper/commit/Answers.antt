use Rattle.std.proofs.Common.{◌∙◌, ap, sym, inl, inr}
use Rattle.fpl_base.specs.Keeping.{applied}
use Rattle.record_keepers.specs.Records.{records}
use Rattle.record_keepers.proofs.TreeLemmas.{stored_is, left_is, failed_is}
use Rattle.record_keepers.proofs.in_memory.TreeKeeperKeeper.commit.Goals as goal

pub returns-clause-done : goal.returns-clause-done
returns-clause-done c = λ tells m is.
    let stored = stored_is c.args.self.now c.self.inside.tree.entries c.store.new.tree.entries c.args.ops.now c.self.view_is c.self.invariant c.store.ensures.order c.in_ok-store.ensures.stored in
    ap (λ n. applied n c.args.ops.now) is ∙ sym stored

pub returns-clause-alone : goal.returns-clause-alone
returns-clause-alone c = λ tells m is x at_x.
    let stored = stored_is c.args.self.now c.self.inside.tree.entries c.store.new.tree.entries c.args.ops.now c.self.view_is c.self.invariant c.store.ensures.order c.in_ok-store.ensures.stored in
    at_x ∙ (stored ∙ ap (λ n. applied n c.args.ops.now) (sym is))

pub returns-clause-stops : goal.returns-clause-stops
returns-clause-stops c = λ tells m is x at_x.
    let stored = stored_is c.args.self.now c.self.inside.tree.entries c.store.new.tree.entries c.args.ops.now c.self.view_is c.self.invariant c.store.ensures.order c.in_ok-store.ensures.stored in
    inr (at_x ∙ (stored ∙ ap (λ n. applied n c.args.ops.now) (sym is)))

pub returns-in_err-store-clause-failed : goal.returns-in_err-store-clause-failed
returns-in_err-store-clause-failed c =
    failed_is c.from_residual.result c.args.self.now (records c.store.new.tree.entries) c.args.ops.now (left_is c.args.self.now c.self.inside.tree.entries c.store.new.tree.entries c.self.view_is c.self.invariant c.store.ensures.order c.in_err-store.ensures.kept)

pub returns-in_err-store-clause-kept : goal.returns-in_err-store-clause-kept
returns-in_err-store-clause-kept c = λ memory tells serves m is.
    is ∙ sym (left_is c.args.self.now c.self.inside.tree.entries c.store.new.tree.entries c.self.view_is c.self.invariant c.store.ensures.order c.in_err-store.ensures.kept)

pub returns-in_err-store-clause-stops : goal.returns-in_err-store-clause-stops
returns-in_err-store-clause-stops c = λ tells m is x at_x.
    inl (at_x ∙ left_is c.args.self.now c.self.inside.tree.entries c.store.new.tree.entries c.self.view_is c.self.invariant c.store.ensures.order c.in_err-store.ensures.kept)
