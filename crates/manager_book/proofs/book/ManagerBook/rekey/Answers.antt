use Rattle.std.proofs.Common.{◌≡◌, ◌<◌, ◌≤◌, ◌-◌, ◌+◌, ◌∙◌, ℕ, List, length, get_or, cond, Some, None, IfSome, arith, rules, subst, sym, ap}
use Rattle.std.specs.Str.{bytes_eq}
use Rattle.std.proofs.lemmas.List.{get_or_default}
use Rattle.manager_book.specs.declared.manager.Manager.{Manager}
use Rattle.manager_book.specs.Indexed.{number_at}
use Rattle.manager_book.specs.Managers.{Managers, entry_with, number_from}
use Rattle.manager_book.proofs.Keys.{indexed_rekeyed, indexed_same, set_changed}
use Rattle.manager_book.proofs.Risen.{risen_set}
use Rattle.manager_book.proofs.book.ManagerBook.rekey.Goals as goal

pub invariant_of-self-2 : goal.invariant_of-self-2
invariant_of-self-2 c =
    let managers = c.self.inside.managers.items in
    let n : length c.args.self.now.managers ≡ length c.self.inside.managers.items = search rules in
    let i : c.args.e ≤ length c.args.self.now.managers = c.requires.issued in
    let lt : c.get.result - 1 < length c.self.inside.managers.items = omega arith in
    let count : c.get-2.result ≡ 1 + (c.get.result - 1) = omega (arith, c.get.ensures.value, c.get-2.ensures.value, c.get.ensures.range) in
    let own : IfSome (number_from 1 managers c.args.key) (λ owner. owner ≡ c.args.e) = subst (λ (old : Managers). IfSome (entry_with old c.args.key) (λ owner. owner ≡ c.args.e)) (sym c.self.view_is) c.requires.free in
    let free : IfSome (number_from 1 managers c.args.key) (λ owner. owner ≡ c.get-2.result) = subst (λ (e : ℕ). IfSome (number_from 1 managers c.args.key) (λ owner. owner ≡ e)) (sym c.get-2.ensures.value) own in
    let new : c.bytes.result.now ≡ c.args.key = search rules in
    let mine : c.index.result.now ≡ get_or managers (c.get.result - 1) c.index.result.now = search rules in
    let lent : c.index_mut-manager.result.now ≡ get_or managers (c.get.result - 1) c.index_mut-manager.result.now = search rules in
    let same = mine ∙ get_or_default managers (c.get.result - 1) c.index.result.now c.index_mut-manager.result.now lt ∙ sym lent in
    let read : c.bytes-old.result.now ≡ c.index.result.now.key = search rules in
    let old = read ∙ ap (λ (m : Manager). m.key) same in
    let renumbered : (key : List ℕ) → number_at c.renumber.new.numbers key ≡ cond (bytes_eq key c.args.key) (Some c.get-2.result) (cond (bytes_eq key c.index_mut-manager.result.now.key) None (number_at c.self.inside.numbers key)) = λ key.
    c.in_ok-renumber.ensures.ok key
    ∙ ap (λ l. cond (bytes_eq key l) (Some c.get-2.result) (cond (bytes_eq key c.bytes-old.result.now) None (number_at c.self.inside.numbers key))) new
    ∙ ap (λ l. cond (bytes_eq key c.args.key) (Some c.get-2.result) (cond (bytes_eq key l) None (number_at c.self.inside.numbers key))) old in
    record {
      indexed = indexed_rekeyed c.self.inside.numbers c.renumber.new.numbers managers (c.get.result - 1) c.index_mut-manager.result.now c.args.key c.args.name c.get-2.result c.self.invariant.indexed lt (search rules) count free renumbered;
      risen = risen_set managers (c.get.result - 1) (record { key = c.args.key; name = c.args.name; season = c.index_mut-manager.result.now.season; sales = c.index_mut-manager.result.now.sales }) c.self.invariant.risen c.keeps_rows.ensures;
    }

-- memory is wanting: the numbers stay
pub invariant_of-self : goal.invariant_of-self
invariant_of-self c = record {
  indexed = indexed_same c.self.inside.numbers c.renumber.new.numbers c.self.inside.managers.items c.self.invariant.indexed c.in_err-renumber.ensures.err;
  risen = c.self.invariant.risen;
}

pub returns-clause-ok : goal.returns-clause-ok
returns-clause-ok c =
    let place : c.args.e ≡ 1 + (c.get.result - 1) = omega (arith, c.get.ensures.value, c.get.ensures.range) in
    let changed = set_changed c.args.key c.args.name c.self.inside.managers.items (c.get.result - 1) c.index_mut-manager.result.now (search rules) in
    search (rules, changed, place)
