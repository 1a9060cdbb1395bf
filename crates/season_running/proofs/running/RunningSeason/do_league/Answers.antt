use Rattle.std.proofs.Common.{ap, length, subst, sym}
use Rattle.season_book.specs.Book.{caller_number}
use Rattle.season_competitions.specs.Leagues.{AreMembers, IsLeagueGranted}
use Rattle.season_running.specs.Accepting.{IsDone}
use Rattle.season_running.specs.Changed.{IsChangedBy}
use Rattle.season_running.specs.Standing.{Running}
use Rattle.season_running.proofs.ChangedFacts.{leagues_changed}
use Rattle.season_running.proofs.RuledFacts.{league_done, on_ok}
use Rattle.season_running.proofs.StepFacts.{either}
use Rattle.season_running.proofs.running.RunningSeason.do_league.Goals as goal

pub returns-clause-done : goal.returns-clause-done
returns-clause-done c = λ now.
    let before : Running = record { facts = c.self.inside.season; managers = c.self.inside.managers.managers; leagues = c.self.inside.leagues; cups = c.self.inside.cups } in
    let after : Running = record before { leagues = c.do_league.new.leagues } in
    on_ok c.do_league.result c.do_league.ensures.done (λ same. subst (λ (r : Running). IsDone c.args.caller.now now c.args.command.now r after) c.self.view_is
    (λ operator book plays ok. league_done operator book c.args.caller.now now c.args.command.now before plays after c.requires.part
    (ap (λ l. let r : Running = record before { leagues = l } in r) same) ok))

pub returns-clause-changed : goal.returns-clause-changed
returns-clause-changed c =
    let before : Running = record { facts = c.self.inside.season; managers = c.self.inside.managers.managers; leagues = c.self.inside.leagues; cups = c.self.inside.cups } in
    let after : Running = record before { leagues = c.do_league.new.leagues } in
    on_ok c.do_league.result c.do_league.ensures.done (λ same. subst (λ (r : Running). IsChangedBy c.args.caller.now c.args.command.now r after) c.self.view_is
    (leagues_changed c.args.caller.now c.args.command.now before c.do_league.new.leagues c.requires.part same))

pub invariant_of-self : goal.invariant_of-self
invariant_of-self c =
    let season = c.self.inside.season in
    let managers = c.self.inside.managers in
    let e = caller_number c.args.caller.now in
    let granted : IsLeagueGranted season managers.managers c.self.inside.leagues e c.args.command.now =
    subst (λ (r : Running). IsLeagueGranted r.facts r.managers r.leagues e c.args.command.now) (sym c.self.view_is) c.requires.granted in
    let stay = c.members_stay.ensures season managers.managers c.self.inside.leagues in
    record {
      profile = c.self.invariant.profile;
      early = c.self.invariant.early;
      members = either (AreMembers (length managers.managers)) c.do_league.result c.do_league.ensures.done c.do_league.ensures.err
          (stay.commands e c.args.command.now granted c.self.invariant.members) c.self.invariant.members;
    }
