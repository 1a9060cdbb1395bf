use Rattle.std.proofs.Common.{◌∙◌, ap, sym, inr}
use Rattle.fpl_base.specs.Keeping.{applied, map_of}
use Rattle.fpl_base.proofs.RowLemmas.{stored_is}
use Rattle.test_doubles.proofs.kept.MemoryKeeperKeeper.commit.Goals as goal

pub returns-clause-done : goal.returns-clause-done
returns-clause-done c = λ tells m is.
    let stored = stored_is c.args.self.now c.reserve.new.self.items c.args.ops.now c.in_ok-changes.changes.items (map_of c.apply_backwards.new.rows.items) (c.reserve.ensures.items ∙ c.self.view_is) c.in_ok-changes.ensures c.apply_backwards.ensures.map in
    ap (λ n. applied n c.args.ops.now) is ∙ sym stored

pub returns-clause-stops : goal.returns-clause-stops
returns-clause-stops c = λ tells m is x at_x.
    let stored = stored_is c.args.self.now c.reserve.new.self.items c.args.ops.now c.in_ok-changes.changes.items (map_of c.apply_backwards.new.rows.items) (c.reserve.ensures.items ∙ c.self.view_is) c.in_ok-changes.ensures c.apply_backwards.ensures.map in
    inr (at_x ∙ (stored ∙ ap (λ n. applied n c.args.ops.now) (sym is)))
