use Rattle.std.proofs.Common.{ap, subst}
use Rattle.season_running.specs.Accepting.{IsDone}
use Rattle.season_running.specs.Changed.{IsChangedBy}
use Rattle.season_running.specs.Standing.{Running}
use Rattle.season_running.proofs.ChangedFacts.{cups_changed}
use Rattle.season_running.proofs.RuledFacts.{cup_done, on_ok}
use Rattle.season_running.proofs.running.RunningSeason.do_cup.Goals as goal

pub returns-clause-done : goal.returns-clause-done
returns-clause-done c = λ now caller.
    let before : Running = record { facts = c.self.inside.season; managers = c.self.inside.managers.managers; leagues = c.self.inside.leagues; cups = c.self.inside.cups } in
    let after : Running = record before { cups = c.do_cup.new.cups } in
    on_ok c.do_cup.result c.do_cup.ensures.done (λ same. subst (λ (r : Running). IsDone caller now c.args.command.now r after) c.self.view_is
    (λ operator book plays ok. cup_done operator book caller now c.args.command.now before plays after c.requires.part
    (ap (λ l. let r : Running = record before { cups = l } in r) same) ok))

pub returns-clause-changed : goal.returns-clause-changed
returns-clause-changed c = λ caller.
    let before : Running = record { facts = c.self.inside.season; managers = c.self.inside.managers.managers; leagues = c.self.inside.leagues; cups = c.self.inside.cups } in
    let after : Running = record before { cups = c.do_cup.new.cups } in
    on_ok c.do_cup.result c.do_cup.ensures.done (λ same. subst (λ (r : Running). IsChangedBy caller c.args.command.now r after) c.self.view_is
    (cups_changed caller c.args.command.now before c.do_cup.new.cups c.requires.part same))
