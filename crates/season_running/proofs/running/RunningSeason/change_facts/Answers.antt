use Rattle.std.proofs.Common.{ap, subst, sym}
use Rattle.season_book.specs.Doing.{IsGranted}
use Rattle.season_running.specs.Accepting.{IsDone}
use Rattle.season_running.specs.Changed.{IsChangedBy}
use Rattle.season_running.specs.Standing.{Running}
use Rattle.season_running.proofs.ChangedFacts.{facts_changed}
use Rattle.season_running.proofs.RuledFacts.{facts_done, on_ok}
use Rattle.season_running.proofs.running.RunningSeason.change_facts.Goals as goal

pub returns-clause-done : goal.returns-clause-done
returns-clause-done c =
    let managers = c.self.inside.managers.managers in
    let before : Running = record { facts = c.self.inside.season; managers = managers; leagues = c.self.inside.leagues; cups = c.self.inside.cups } in
    let after : Running = record { facts = c.change.new.self; managers = managers; leagues = c.self.inside.leagues; cups = c.self.inside.cups } in
    let granted : IsGranted before.facts c.args.now c.args.command.now = subst (λ (r : Running). IsGranted r.facts c.args.now c.args.command.now) (sym c.self.view_is) c.requires.granted in
    on_ok c.change.result c.change.ensures.ok (λ same. subst (λ (r : Running). IsDone c.args.caller.now c.args.now c.args.command.now r after) c.self.view_is
    (λ operator book plays ok. facts_done operator book c.args.caller.now c.args.now c.args.command.now before plays after c.facts_leave_entries.ensures c.requires.facts granted
    (ap (λ f. let r : Running = record { facts = f; managers = managers; leagues = c.self.inside.leagues; cups = c.self.inside.cups } in r) same)))

pub returns-clause-changed : goal.returns-clause-changed
returns-clause-changed c =
    let before : Running = record { facts = c.self.inside.season; managers = c.self.inside.managers.managers; leagues = c.self.inside.leagues; cups = c.self.inside.cups } in
    let after : Running = record before { facts = c.change.new.self } in
    on_ok c.change.result c.change.ensures.ok (λ same. subst (λ (r : Running). IsChangedBy c.args.caller.now c.args.command.now r after) c.self.view_is
    (facts_changed c.args.caller.now c.args.command.now before c.change.new.self c.requires.facts same))
