use Rattle.std.proofs.Common.{◌≡◌, ◌<◌, ◌≤◌, ◌+◌, ℕ, Option, Some, length, arith, rules, sym, subst, ◌∙◌}
use Rattle.std.specs.Prelude.{Vec, IfSome}
use Rattle.std.specs.declared.alloc.Global.{Global}
use Rattle.std.specs.BTreeMap.{get_by}
use Rattle.std.specs.Cmp.Lexicographic.{slice_cmp}
use Rattle.std.specs.Ordering.{nat_cmp}
use Rattle.manager_book.specs.Managers.{number_from}
use Rattle.manager_book.proofs.Keys.{number_least, number_most}
use Rattle.manager_book.proofs.Absent.{some_of}
use Rattle.manager_book.proofs.book.ManagerBook.owner_of.Goals as goal

pub returns-in-Some-clause-owner : goal.returns-in-Some-clause-owner
returns-in-Some-clause-owner c =
    let v : get_by (λ (k : Vec ℕ Global). slice_cmp nat_cmp c.args.bytes.now k.items) c.self.inside.numbers ≡ Some c.in-Some.number.now = search rules in
    let t : number_from 1 c.self.inside.managers.items c.args.bytes.now ≡ Some c.in-Some.number.now = sym (c.self.invariant.indexed.told c.args.bytes.now) ∙ v in
    let le : 1 ≤ c.in-Some.number.now = number_least 1 c.self.inside.managers.items c.args.bytes.now c.in-Some.number.now t in
    let s : number_from 1 c.args.self.now.managers c.args.bytes.now ≡ Some c.in-Some.number.now = search rules in
    some_of c.new.result c.in-Some.number.now (search rules) (search rules) ∙ sym s

pub returns-in-Some-clause-issued : goal.returns-in-Some-clause-issued
returns-in-Some-clause-issued c =
    let v : get_by (λ (k : Vec ℕ Global). slice_cmp nat_cmp c.args.bytes.now k.items) c.self.inside.numbers ≡ Some c.in-Some.number.now = search rules in
    let t : number_from 1 c.self.inside.managers.items c.args.bytes.now ≡ Some c.in-Some.number.now = sym (c.self.invariant.indexed.told c.args.bytes.now) ∙ v in
    let le : 1 ≤ c.in-Some.number.now = number_least 1 c.self.inside.managers.items c.args.bytes.now c.in-Some.number.now t in
    let lt : c.in-Some.number.now < 1 + length c.self.inside.managers.items = number_most 1 c.self.inside.managers.items c.args.bytes.now c.in-Some.number.now t in
    let n : length c.args.self.now.managers ≡ length c.self.inside.managers.items = search rules in
    let most : c.in-Some.number.now ≤ length c.args.self.now.managers = omega arith in
    let o : c.new.result ≡ Some c.in-Some.number.now = some_of c.new.result c.in-Some.number.now (search rules) (search rules) in
    subst (λ (x : Option ℕ). IfSome x (λ e. e ≤ length c.args.self.now.managers)) (sym o) most
