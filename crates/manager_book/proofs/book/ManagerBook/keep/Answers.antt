use Rattle.std.proofs.Common.{◌≡◌, ◌<◌, ◌≤◌, ◌-◌, length, set, arith, rules, subst, ap}
use Rattle.manager_book.specs.Managers.{Managers, IsSameBut}
use Rattle.manager_book.proofs.Keys.{indexed_set}
use Rattle.manager_book.proofs.Risen.{risen_set}
use Rattle.manager_book.proofs.Changed.{same_but}
use Rattle.manager_book.proofs.book.ManagerBook.keep.Goals as goal

pub invariant_of-self : goal.invariant_of-self
invariant_of-self c =
    let n : length c.args.self.now.managers ≡ length c.self.inside.managers.items = search rules in
    let i : c.args.e ≤ length c.args.self.now.managers = search rules in
    let lt : c.get.result - 1 < length c.self.inside.managers.items = omega arith in
    record {
      indexed = indexed_set c.self.inside.numbers c.self.inside.managers.items (c.get.result - 1) c.index_mut-manager.result.now c.keep-done.new.season c.keep-done.new.kept c.self.invariant.indexed lt (search rules);
      risen = risen_set c.self.inside.managers.items (c.get.result - 1) (record { key = c.index_mut-manager.result.now.key; name = c.index_mut-manager.result.now.name; season = c.keep-done.new.season; sales = c.keep-done.new.kept }) c.self.invariant.risen c.keeps_rows.ensures;
    }

pub returns-clause-others : goal.returns-clause-others
returns-clause-others c =
    let le : 1 ≤ c.args.e = omega arith in
    let q : c.get.result - 1 ≡ c.args.e - 1 = ap (λ x. x - 1) c.get.ensures.value in
    subst (λ (old : Managers). IsSameBut c.args.e old (record { profile = c.self.inside.profile; managers = set c.self.inside.managers.items (c.get.result - 1) (record { key = c.index_mut-manager.result.now.key; name = c.index_mut-manager.result.now.name; season = c.keep-done.new.season; sales = c.keep-done.new.kept }) })) c.self.view_is
    (same_but c.args.e (c.get.result - 1) c.self.inside.profile c.self.inside.managers.items c.index_mut-manager.result.now c.keep-done.new.season c.keep-done.new.kept le q (search rules))
