use Rattle.std.proofs.Common.{rules, ◌≡◌, ◌≤◌, ◌-◌, ◌∙◌, Some, None, ap, subst, sym}
use Rattle.std.specs.List.{slice_get}
use Rattle.std.specs.Prelude.{option_copied}
use Rattle.record_changes.proofs.ChangesMade.{made_there, made_nowhere}
use Rattle.record_changes.proofs.parts.transfers_made.Goals as goal

pub returns-in-Some-manager-clause-made : goal.returns-in-Some-manager-clause-made
returns-in-Some-manager-clause-made c = λ players entries lawful are.
    let one : 1 ≤ c.args.entry = search rules in
    let at : slice_get c.args.managers.now.managers (c.in-Some.id - 1) ≡ Some c.in-Some-manager.manager.now = sym c.manager.ensures ∙ ap option_copied c.in-Some-manager.is in
    let there = subst (λ n. slice_get c.args.managers.now.managers (n - 1) ≡ Some c.in-Some-manager.manager.now) c.in-Some.ensures.value at in
    c.from.ensures ∙ made_there c.entries_are_issued.ensures players c.args.managers.now.managers entries c.args.entry c.args.gameweek c.made.result c.in-Some-manager.manager.now
    one there c.made.ensures.history lawful are

pub returns-in-None-manager-clause-made : goal.returns-in-None-manager-clause-made
returns-in-None-manager-clause-made c = λ players entries lawful are.
    let one : 1 ≤ c.args.entry = search rules in
    let at : slice_get c.args.managers.now.managers (c.in-Some.id - 1) ≡ None = sym c.manager.ensures ∙ ap option_copied c.in-None-manager.is in
    let none = subst (λ n. slice_get c.args.managers.now.managers (n - 1) ≡ None) c.in-Some.ensures.value at in
    made_nowhere c.entries_are_issued.ensures players c.args.managers.now.managers entries c.args.entry c.args.gameweek one none are
