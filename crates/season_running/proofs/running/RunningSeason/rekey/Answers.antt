use Rattle.std.proofs.Common.{◌∙◌, Some, length, refl, subst, sym}
use Rattle.season_book.specs.EntryViews.{gameweek_seen}
use Rattle.season_running.specs.Accepting.{IsDone, IsOpen}
use Rattle.season_running.specs.Changed.{IsChangedBy}
use Rattle.season_running.specs.Standing.{Running}
use Rattle.season_running.proofs.ChangedFacts.{rekey_changed}
use Rattle.season_running.proofs.RuledFacts.{on_ok, profile_stays, rekey_done}
use Rattle.season_running.proofs.StepFacts.{none_fewer}
use Rattle.season_running.proofs.running.RunningSeason.rekey.Goals as goal

pub do_rekey-requires : goal.do_rekey-requires
do_rekey-requires c = record {
  granted = subst (IsOpen c.self.inside.managers.managers) c.in-Rekey.is (subst (λ (r : Running). IsOpen r.managers c.args.command.now) (sym c.self.view_is) c.requires.granted);
}

pub invariant_of-self : goal.invariant_of-self
invariant_of-self c = record {
  profile = profile_stays c.do_rekey.result c.self.inside.managers c.do_rekey.new.managers _ c.do_rekey.ensures.rows c.do_rekey.ensures.err ∙ c.self.invariant.profile;
  early = c.do_rekey.ensures.later (Some (gameweek_seen c.self.inside.season.calendar)) c.self.invariant.early;
  members = (c.members_stay.ensures c.self.inside.season c.self.inside.managers.managers c.self.inside.leagues).entries (length c.do_rekey.new.managers.managers)
      (none_fewer c.do_rekey.result c.self.inside.managers c.do_rekey.new.managers c.in-Rekey.entry c.in-Rekey.key c.in-Rekey.name c.do_rekey.ensures.rows c.do_rekey.ensures.err) c.self.invariant.members;
}

pub returns-in-Rekey-clause-done : goal.returns-in-Rekey-clause-done
returns-in-Rekey-clause-done c = λ now caller.
    let before : Running = record { facts = c.self.inside.season; managers = c.self.inside.managers.managers; leagues = c.self.inside.leagues; cups = c.self.inside.cups } in
    let after : Running = record { facts = c.self.inside.season; managers = c.do_rekey.new.managers.managers; leagues = c.self.inside.leagues; cups = c.self.inside.cups } in
    on_ok c.do_rekey.result c.do_rekey.ensures.books (λ stand. subst (λ (r : Running). IsDone caller now c.args.command.now r after) c.self.view_is
    (λ operator book plays ok. rekey_done operator book caller now c.args.command.now before plays c.in-Rekey.entry c.in-Rekey.key c.in-Rekey.name after c.in-Rekey.is refl refl refl
    (stand before.facts.players book.entries plays.entries) ok))

pub returns-in-Rekey-clause-changed : goal.returns-in-Rekey-clause-changed
returns-in-Rekey-clause-changed c = λ caller.
    let facts = c.self.inside.season in
    let after : Running = record { facts = facts; managers = c.do_rekey.new.managers.managers; leagues = c.self.inside.leagues; cups = c.self.inside.cups } in
    on_ok c.do_rekey.result c.do_rekey.ensures.rows (λ same. subst (λ (r : Running). IsChangedBy caller c.args.command.now r after) c.self.view_is
    (rekey_changed caller c.args.command.now facts c.self.inside.leagues c.self.inside.cups c.self.inside.managers c.do_rekey.new.managers c.in-Rekey.entry c.in-Rekey.key c.in-Rekey.name c.in-Rekey.is same))
