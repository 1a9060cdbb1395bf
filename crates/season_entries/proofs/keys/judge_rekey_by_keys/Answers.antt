use Rattle.std.proofs.Common.{◌≡◌, ◌≢◌, ◌<◌, ◌≤◌, ◌∙◌, ℕ, Option, Some, None, IfSome, length, arith, rules, subst, sym}
use Rattle.manager_book.specs.Managers.{entry_with}
use Rattle.season_entries.proofs.Keyed.{rekey_free, rekey_none, rekey_own, rekey_past, rekey_taken}
use Rattle.season_entries.proofs.keys.judge_rekey_by_keys.Goals as goal

-- numbers start at 1
pub returns-in_default-clause-rows : goal.returns-in_default-clause-rows
returns-in_default-clause-rows c = rekey_none c.args.operator.now c.args.managers.now c.args.number c.args.key.now (search rules)

pub returns-then-number-entries-clause-rows : goal.returns-then-number-entries-clause-rows
returns-then-number-entries-clause-rows c =
    let past : length c.args.managers.now.managers < c.args.number = omega (arith, c.entries.ensures.count, c.if-number-entries.true) in
    rekey_past c.args.operator.now c.args.managers.now c.args.number c.args.key.now past

pub returns-then-eq-clause-rows : goal.returns-then-eq-clause-rows
returns-then-eq-clause-rows c =
    let one : 1 ≤ c.args.number = search rules in
    let few : c.args.number ≤ length c.args.managers.now.managers = omega (arith, c.entries.ensures.count, c.if-number-entries.false) in
    rekey_own c.args.operator.now c.args.managers.now c.args.number c.args.key.now one few (search rules)

-- its own
pub returns-then-eq-2-clause-rows : goal.returns-then-eq-2-clause-rows
returns-then-eq-2-clause-rows c =
    let one : 1 ≤ c.args.number = search rules in
    let few : c.args.number ≤ length c.args.managers.now.managers = omega (arith, c.entries.ensures.count, c.if-number-entries.false) in
    let owner : entry_with c.args.managers.now c.args.key.now ≡ Some c.in-Some-entry_of.owner = sym c.entry_of.ensures ∙ c.in-Some-entry_of.is in
    let free : IfSome (entry_with c.args.managers.now c.args.key.now) (λ owner. owner ≡ c.args.number) = subst (λ (o : Option ℕ). IfSome o (λ owner. owner ≡ c.args.number)) (sym owner) (search rules) in
    rekey_free c.args.operator.now c.args.managers.now c.args.number c.args.key.now one few (search rules) free

-- another entry's
pub returns-else-eq-2-clause-rows : goal.returns-else-eq-2-clause-rows
returns-else-eq-2-clause-rows c =
    let one : 1 ≤ c.args.number = search rules in
    let few : c.args.number ≤ length c.args.managers.now.managers = omega (arith, c.entries.ensures.count, c.if-number-entries.false) in
    let owner : entry_with c.args.managers.now c.args.key.now ≡ Some c.in-Some-entry_of.owner = sym c.entry_of.ensures ∙ c.in-Some-entry_of.is in
    let apart : c.in-Some-entry_of.owner ≢ c.args.number = search rules in
    rekey_taken c.args.operator.now c.args.managers.now c.args.number c.args.key.now c.in-Some-entry_of.owner one few (search rules) owner apart

-- nobody's
pub returns-in-None-clause-rows : goal.returns-in-None-clause-rows
returns-in-None-clause-rows c =
    let one : 1 ≤ c.args.number = search rules in
    let few : c.args.number ≤ length c.args.managers.now.managers = omega (arith, c.entries.ensures.count, c.if-number-entries.false) in
    let nobody : entry_with c.args.managers.now c.args.key.now ≡ None = sym c.entry_of.ensures ∙ c.in-None.is in
    let free : IfSome (entry_with c.args.managers.now c.args.key.now) (λ owner. owner ≡ c.args.number) = subst (λ (o : Option ℕ). IfSome o (λ owner. owner ≡ c.args.number)) (sym nobody) tt in
    rekey_free c.args.operator.now c.args.managers.now c.args.number c.args.key.now one few (search rules) free
