use Rattle.std.proofs.Common.{◌∙◌, Some, length, refl, subst, sym}
use Rattle.season_running.specs.Accepting.{HasRoom, IsDone}
use Rattle.season_running.specs.Changed.{IsChangedBy}
use Rattle.season_running.specs.Standing.{Running}
use Rattle.season_book.specs.EntryViews.{gameweek_seen}
use Rattle.season_running.proofs.ChangedFacts.{key_changed}
use Rattle.season_entries.proofs.Keyed.{same_many}
use Rattle.season_running.proofs.RuledFacts.{key_done, profile_stays}
use Rattle.season_running.proofs.StepFacts.{not_fewer}
use Rattle.season_running.proofs.running.RunningSeason.add_entry.Goals as goal
use Rattle.season_running.proofs.running.RunningSeason.add_entry.Goals.{in-Ok, in-Err}

pub do_key-requires : goal.do_key-requires
do_key-requires c = record {
  free = subst (HasRoom c.self.inside.managers.managers) c.in-Key.is (subst (λ (r : Running). HasRoom r.managers c.args.command.now) (sym c.self.view_is) c.requires.granted) c.self.inside.managers.profile;
}

pub invariant_of-self : goal.invariant_of-self
invariant_of-self c = record {
  profile = profile_stays c.do_key.result c.self.inside.managers c.do_key.new.managers _ c.do_key.ensures.rows c.do_key.ensures.err ∙ c.self.invariant.profile;
  early = c.do_key.ensures.later (Some (gameweek_seen c.self.inside.season.calendar)) c.self.invariant.early;
  members = (c.members_stay.ensures c.self.inside.season c.self.inside.managers.managers c.self.inside.leagues).entries (length c.do_key.new.managers.managers)
      (not_fewer c.do_key.result c.self.inside.managers c.do_key.new.managers _ c.do_key.ensures.rows c.do_key.ensures.err) c.self.invariant.members;
}

pub returns-after-do_key-clause-done : goal.returns-after-do_key-clause-done
returns-after-do_key-clause-done c = λ now caller.
    let before : Running = record { facts = c.self.inside.season; managers = c.self.inside.managers.managers; leagues = c.self.inside.leagues; cups = c.self.inside.cups } in
    let after : Running = record { facts = c.self.inside.season; managers = c.do_key.new.managers.managers; leagues = c.self.inside.leagues; cups = c.self.inside.cups } in
    elim c.match-do_key.branch [
      | in-Ok w ↦
          let done : IsDone caller now c.args.command.now c.args.self.now after =
          subst (λ (r : Running). IsDone caller now c.args.command.now r after) c.self.view_is
          (λ operator book plays ok. key_done operator book caller now c.args.command.now before plays c.in-Key.key c.in-Key.name after c.in-Key.is refl refl refl
          (same_many before.facts.players before.managers book.entries plays.entries)
          (w.in-Ok.ensures.books before.facts.players book.entries plays.entries) ok) in
          rw w.result-is done
      | in-Err w ↦ rw w.result-is tt
    ]

pub returns-after-do_key-clause-changed : goal.returns-after-do_key-clause-changed
returns-after-do_key-clause-changed c = λ caller.
    let facts = c.self.inside.season in
    let after : Running = record { facts = facts; managers = c.do_key.new.managers.managers; leagues = c.self.inside.leagues; cups = c.self.inside.cups } in
    elim c.match-do_key.branch [
      | in-Ok w ↦
          let changed : IsChangedBy caller c.args.command.now c.args.self.now after =
          subst (λ (r : Running). IsChangedBy caller c.args.command.now r after) c.self.view_is
          (key_changed caller c.args.command.now facts c.self.inside.leagues c.self.inside.cups c.self.inside.managers c.do_key.new.managers c.in-Key.key c.in-Key.name c.in-Key.is w.in-Ok.ensures.rows) in
          rw w.result-is changed
      | in-Err w ↦ rw w.result-is tt
    ]
