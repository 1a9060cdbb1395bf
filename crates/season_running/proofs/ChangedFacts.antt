-- What a command leaves of a running season, part by part.
use Rattle.std.proofs.Common.{◌≡◌, ◌++◌, ◌∷◌, [], ℕ, List, ap, refl, subst, sym}
use Rattle.fpl_base.specs.declared.kinds.Caller.{Caller}
use Rattle.fpl_base.specs.declared.kinds.Position.{Position}
use Rattle.rule_book.specs.declared.cup.Bracket.{Bracket}
use Rattle.rule_book.specs.Calendar.{next_gameweek}
use Rattle.rule_book.specs.Leagues.{LeagueFacts}
use Rattle.manager_book.specs.declared.manager.Manager.{Manager}
use Rattle.manager_book.specs.Managers.{IsSameBut, Managers, rekeyed}
use Rattle.season_book.specs.Book.{Facts, caller_number}
use Rattle.season_book.specs.Commands.{changed_by, part_of}
use Rattle.season_book.specs.LeagueCommands.{leagues_after}
use Rattle.season_book.specs.PlayerCommands.{facts_amended}
use Rattle.season_book.specs.declared.command.Command.{Command}
use Rattle.season_book.specs.declared.command.Command.TheVariants as commands
use Rattle.season_book.specs.declared.part.Part.TheVariants as part
use Rattle.season_competitions.specs.Cups.{cups_after}
use Rattle.season_entries.specs.Earlier.{RowsStayBefore}
use Rattle.season_entries.specs.Keys.{new_manager}
use Rattle.season_running.specs.Changed.{IsByManager, IsChangedBy, IsChangedIn}
use Rattle.season_running.specs.Standing.{Running}

module _ (caller : Caller) (command : Command) (old : Running) where
  pub facts_changed : (facts : Facts) → part_of command ≡ part.Facts → facts ≡ changed_by old.facts command → IsChangedBy caller command old (record old { facts = facts })
  facts_changed facts is same =
      let new : Running = record old { facts = facts } in
      subst (λ p. IsChangedIn p (caller_number caller) command old new) (sym is) (ap (λ (f : Facts). let r : Running = record old { facts = f } in r) same)

  pub amend_changed : (p : ℕ) (name : List ℕ) (position : Position) (facts : Facts) → command ≡ commands.AmendPlayer p name position
      → facts ≡ facts_amended old.facts (record { player = p; name = name; position = position }) → IsChangedBy caller command old (record old { facts = facts })
  amend_changed p name position facts is same =
      let new : Running = record old { facts = facts } in
      subst (λ (c : Command). IsChangedBy caller c old new) (sym is) (ap (λ (f : Facts). let r : Running = record old { facts = f } in r) same)

  pub leagues_changed : (leagues : List LeagueFacts) → part_of command ≡ part.Leagues → leagues ≡ leagues_after old.leagues (caller_number caller) command
      → IsChangedBy caller command old (record old { leagues = leagues })
  leagues_changed leagues is same =
      let new : Running = record old { leagues = leagues } in
      subst (λ p. IsChangedIn p (caller_number caller) command old new) (sym is) (ap (λ ls. let r : Running = record old { leagues = ls } in r) same)

  pub cups_changed : (cups : List Bracket) → part_of command ≡ part.Cups → cups ≡ cups_after old.cups command → IsChangedBy caller command old (record old { cups = cups })
  cups_changed cups is same =
      let new : Running = record old { cups = cups } in
      subst (λ p. IsChangedIn p (caller_number caller) command old new) (sym is) (ap (λ l. let r : Running = record old { cups = l } in r) same)

module _ (caller : Caller) (command : Command) (facts : Facts) (leagues : List LeagueFacts) (cups : List Bracket) (old new : Managers) where
  abbrev season_with : List Manager → Running
  season_with managers = record { facts = facts; managers = managers; leagues = leagues; cups = cups }

  pub key_changed : (key name : List ℕ) → command ≡ commands.Key key name → new ≡ record old { managers = old.managers ++ new_manager key name ∷ [] }
      → IsChangedBy caller command (season_with old.managers) (season_with new.managers)
  key_changed key name is same =
      subst (λ (c : Command). IsChangedBy caller c (season_with old.managers) (season_with new.managers)) (sym is)
      (ap (λ (m : Managers). season_with m.managers) same)

  pub rekey_changed : (e : ℕ) (key name : List ℕ) → command ≡ commands.Rekey e key name → new ≡ record old { managers = rekeyed old.managers e key name }
      → IsChangedBy caller command (season_with old.managers) (season_with new.managers)
  rekey_changed e key name is same =
      subst (λ (c : Command). IsChangedBy caller c (season_with old.managers) (season_with new.managers)) (sym is)
      (ap (λ (m : Managers). season_with m.managers) same)

  pub deed_changed : (e : ℕ) → part_of command ≡ part.Deeds → caller_number caller ≡ e → IsSameBut e old new → RowsStayBefore (next_gameweek facts.calendar) e old new
      → IsChangedBy caller command (season_with old.managers) (season_with new.managers)
  deed_changed e is number others earlier =
      let by_manager : IsByManager e (season_with old.managers) (season_with new.managers) = record {
        facts = refl;
        leagues = refl;
        cups = refl;
        others = λ profile. record { profile = refl; keys = others.keys; others = others.others; sales = others.sales };
        earlier = λ profile. earlier;
      } in
      subst (λ p. IsChangedIn p (caller_number caller) command (season_with old.managers) (season_with new.managers)) (sym is)
      (subst (λ n. IsByManager n (season_with old.managers) (season_with new.managers)) (sym number) by_manager)
