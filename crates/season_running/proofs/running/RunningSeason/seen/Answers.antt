use Rattle.std.proofs.Common.{◌≡◌, ◌∙◌, ℕ, Some, ap, refl, subst, sym}
use Rattle.rule_book.specs.Entries.{entry_in}
use Rattle.rule_book.specs.Leagues.{LeagueFacts}
use Rattle.season_entries.specs.EntryLaws.{AreEarly}
use Rattle.season_views.specs.Leagues.{AreIssued}
use Rattle.season_views.specs.Seen.{IsKept, SeenSeason}
use Rattle.season_running.specs.Kept.{seen_of}
use Rattle.season_running.specs.Standing.{Running}
use Rattle.season_running.proofs.running.RunningSeason.seen.Goals as goal

pub returns-clause-seen : goal.returns-clause-seen
returns-clause-seen g c =
    let inside = c.self.inside in
    let by_rules : SeenSeason = record { facts = inside.season; managers = inside.managers; leagues = inside.leagues; cups = inside.cups } in
    let running : Running = record { facts = inside.season; managers = inside.managers.managers; leagues = inside.leagues; cups = inside.cups } in
    let same : by_rules ≡ seen_of running =
    λ i. record {
      facts = inside.season;
      managers = record { profile = c.self.invariant.profile i; managers = inside.managers.managers };
      leagues = inside.leagues;
      cups = inside.cups;
    } in
    c.of.ensures ∙ same ∙ ap seen_of c.self.view_is

pub returns-clause-kept : goal.returns-clause-kept
returns-clause-kept g c =
    let running = c.args.self.now in
    subst (λ (s : SeenSeason). IsKept s c.of-2.result) (sym (returns-clause-seen g c))
    (subst (IsKept (seen_of running)) (sym c.of-2.ensures) (record { profile = refl; kept = c.requires }))

pub returns-clause-early : goal.returns-clause-early
returns-clause-early g c = subst (λ (s : SeenSeason). AreEarly s.facts s.managers.managers) (sym c.of.ensures) c.self.invariant.early

pub returns-clause-issued : goal.returns-clause-issued
returns-clause-issued g c =
    let inside = c.self.inside in
    subst (λ (s : SeenSeason). (l : ℕ) (league : LeagueFacts) → entry_in s.leagues l ≡ Some league → AreIssued s.managers league.members) (sym c.of.ensures)
    (λ l league at. (c.members_stay.ensures inside.season inside.managers.managers inside.leagues).there l league at c.self.invariant.members)
