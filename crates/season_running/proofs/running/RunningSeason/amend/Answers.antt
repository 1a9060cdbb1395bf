use Rattle.std.proofs.Common.{ap, subst}
use Rattle.season_running.specs.Accepting.{IsDone}
use Rattle.season_running.specs.Changed.{IsChangedBy}
use Rattle.season_running.specs.Standing.{Running}
use Rattle.season_running.proofs.ChangedFacts.{amend_changed}
use Rattle.season_running.proofs.RuledFacts.{amend_done, amendable, on_ok}
use Rattle.season_running.proofs.StepFacts.{in_step_amended}
use Rattle.season_running.proofs.running.RunningSeason.amend.Goals as goal

pub amend_player-requires : goal.amend_player-requires
amend_player-requires c =
    let before : Running = record { facts = c.self.inside.season; managers = c.self.inside.managers.managers; leagues = c.self.inside.leagues; cups = c.self.inside.cups } in
    let can = amendable before c.args.self.now c.args.command.now c.in-AmendPlayer.player c.in-AmendPlayer.name c.in-AmendPlayer.position c.self.view_is c.in-AmendPlayer.is c.requires.granted in
    record { there = can.there }

pub invariant_of-self : goal.invariant_of-self
invariant_of-self c =
    in_step_amended c.amend_player.result c.self.inside.season c.amend_player.new.self _ c.self.inside.managers c.self.inside.leagues c.amend_player.ensures.ok c.amend_player.ensures.err c.self.invariant

pub returns-in-AmendPlayer-clause-done : goal.returns-in-AmendPlayer-clause-done
returns-in-AmendPlayer-clause-done c = λ now caller.
    let before : Running = record { facts = c.self.inside.season; managers = c.self.inside.managers.managers; leagues = c.self.inside.leagues; cups = c.self.inside.cups } in
    let after : Running = record before { facts = c.amend_player.new.self } in
    let can = amendable before c.args.self.now c.args.command.now c.in-AmendPlayer.player c.in-AmendPlayer.name c.in-AmendPlayer.position c.self.view_is c.in-AmendPlayer.is c.requires.granted in
    on_ok c.amend_player.result c.amend_player.ensures.ok (λ same. subst (λ (r : Running). IsDone caller now c.args.command.now r after) c.self.view_is
    (λ operator book plays ok. amend_done operator book caller now c.args.command.now before plays c.in-AmendPlayer.player c.in-AmendPlayer.name c.in-AmendPlayer.position after
    c.amendments_leave_entries.ensures c.in-AmendPlayer.is can
    (ap (λ f. let r : Running = record before { facts = f } in r) same) ok))

pub returns-in-AmendPlayer-clause-changed : goal.returns-in-AmendPlayer-clause-changed
returns-in-AmendPlayer-clause-changed c = λ caller.
    let before : Running = record { facts = c.self.inside.season; managers = c.self.inside.managers.managers; leagues = c.self.inside.leagues; cups = c.self.inside.cups } in
    let after : Running = record before { facts = c.amend_player.new.self } in
    on_ok c.amend_player.result c.amend_player.ensures.ok (λ same. subst (λ (r : Running). IsChangedBy caller c.args.command.now r after) c.self.view_is
    (amend_changed caller c.args.command.now before c.in-AmendPlayer.player c.in-AmendPlayer.name c.in-AmendPlayer.position c.amend_player.new.self c.in-AmendPlayer.is same))
