use Rattle.std.proofs.Common.{◌≡◌, ◌<◌, ◌+◌, ◌++◌, ◌∷◌, List, [], ℕ, None, length, arith, rules, sym, subst}
use Rattle.std.specs.BTreeMap.{insert_entry}
use Rattle.rule_book.specs.declared.transfers.Sale.{Sale}
use Rattle.season_ledger.specs.declared.row.Row.{Row}
use Rattle.manager_book.specs.declared.manager.Manager.{Manager}
use Rattle.manager_book.specs.Managers.{number_from}
use Rattle.manager_book.specs.Kept.{IsKept}
use Rattle.manager_book.proofs.Keys.{by_items, indexed_add}
use Rattle.manager_book.proofs.Risen.{risen_add}
use Rattle.manager_book.proofs.book.ManagerBook.add.Goals as goal

abbrev manager : List ℕ → List ℕ → List Row → List (ℕ × Sale) → Manager
manager k n s t = record { key = k; name = n; season = s; sales = t }

pub invariant_of-self-else-is_err-2 : goal.invariant_of-self-else-is_err-2
invariant_of-self-else-is_err-2 c =
    let pushed : c.push.new.self.items ≡ c.self.inside.managers.items ++ manager c.args.key c.args.name c.args.season c.args.sales ∷ [] = search rules in
    let n : length c.args.self.now.managers ≡ length c.self.inside.managers.items = search rules in
    let room : length c.args.self.now.managers < 2048 = c.requires.room in
    let lt : length c.self.inside.managers.items < 2048 = omega arith in
    let fresh : number_from 1 c.self.inside.managers.items c.args.key ≡ None = search rules in
    let same : c.in_ok-bytes.bytes.items ≡ c.args.key = search rules in
    let count : c.len.result + 1 ≡ length c.self.inside.managers.items + 1 = search rules in
    let entries : c.insert.new.self.entries ≡ insert_entry by_items c.self.inside.numbers.entries c.in_ok-bytes.bytes (c.len.result + 1) = search rules in
    subst (IsKept c.insert.new.self) (sym pushed) (record {
      indexed = indexed_add c.self.inside.numbers c.insert.new.self c.self.inside.managers.items (manager c.args.key c.args.name c.args.season c.args.sales) c.in_ok-bytes.bytes (c.len.result + 1) c.self.invariant.indexed lt fresh same count entries;
      risen = risen_add c.self.inside.managers.items (manager c.args.key c.args.name c.args.season c.args.sales) c.self.invariant.risen c.keeps_rows.ensures;
    })
