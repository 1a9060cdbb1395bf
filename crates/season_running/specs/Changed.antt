-- What a command that was done leaves of a running season, by what is kept of it.
use Rattle.std.specs.Prelude.{◌≡◌, ◌++◌, ℕ, List, [], ◌∷◌}
use Rattle.fpl_base.specs.declared.kinds.Caller.{Caller}
use Rattle.fpl_base.specs.declared.kinds.Profile.{Profile}
use Rattle.rule_book.specs.Calendar.{next_gameweek}
use Rattle.manager_book.specs.declared.manager.Manager.{Manager}
use Rattle.manager_book.specs.Managers.{IsSameBut, Managers, rekeyed}
use Rattle.season_book.specs.Book.{Facts, caller_number}
use Rattle.season_book.specs.Commands.{changed_by, part_of}
use Rattle.season_book.specs.LeagueCommands.{leagues_after}
use Rattle.season_book.specs.PlayerCommands.{facts_amended}
use Rattle.season_book.specs.declared.command.Command.{Command}
use Rattle.season_book.specs.declared.command.Command.TheVariants as command
use Rattle.season_book.specs.declared.part.Part.{Part}
use Rattle.season_book.specs.declared.part.Part.TheVariants as part
use Rattle.season_competitions.specs.Cups.{cups_after}
use Rattle.season_entries.specs.Earlier.{RowsStayBefore}
use Rattle.season_entries.specs.Keys.{new_manager}
use Rattle.season_running.specs.Standing.{Running}

-- the managers with the one whom a command adds
abbrev pub managers_with : List Manager → Command → List Manager
managers_with managers (command.Key key name) = managers ++ new_manager key name ∷ []
managers_with managers command = managers

-- the managers where one has the key and the name that a command gives him
abbrev pub managers_rekeyed : List Manager → Command → List Manager
managers_rekeyed managers (command.Rekey e key name) = rekeyed managers e key name
managers_rekeyed managers command = managers

-- the facts where a player has the name and the position that a command gives him
abbrev pub facts_with : Facts → Command → Facts
facts_with facts (command.AmendPlayer p name position) = facts_amended facts (record { player = p; name = name; position = position })
facts_with facts command = facts

-- managers who play by these rules
abbrev pub played_by : Profile → List Manager → Managers
played_by profile managers = record { profile = profile; managers = managers }

-- entry e's manager did something: the facts, the leagues and the cups stay; so do the other entries, all keys and names,
-- and his own rows of the gameweeks before the next one
pub record IsByManager (e : ℕ) (old new : Running) : Type 0 where
  pub facts : new.facts ≡ old.facts
  pub leagues : new.leagues ≡ old.leagues
  pub cups : new.cups ≡ old.cups
  pub others : (profile : Profile) → IsSameBut e (played_by profile old.managers) (played_by profile new.managers)
  pub earlier : (profile : Profile)
      → RowsStayBefore (next_gameweek old.facts.calendar) e (played_by profile old.managers) (played_by profile new.managers)

-- entry e's command on this part was done: the facts, the leagues or the cups go on as it says, or it adds a manager behind
-- the others, or gives one another key or a player another position, and the other parts stay
abbrev pub IsChangedIn : Part → ℕ → Command → Running → Running → Type 0
IsChangedIn part.Facts e command old new = new ≡ record old { facts = changed_by old.facts command }
IsChangedIn part.Players e command old new = new ≡ record old { facts = facts_with old.facts command }
IsChangedIn part.Entries e command old new = new ≡ record old { managers = managers_with old.managers command }
IsChangedIn part.Keys e command old new = new ≡ record old { managers = managers_rekeyed old.managers command }
IsChangedIn part.Deeds e command old new = IsByManager e old new
IsChangedIn part.Leagues e command old new = new ≡ record old { leagues = leagues_after old.leagues e command }
IsChangedIn part.Cups e command old new = new ≡ record old { cups = cups_after old.cups command }

-- a caller's command was done
abbrev pub IsChangedBy : Caller → Command → Running → Running → Type 0
IsChangedBy caller command old new = IsChangedIn (part_of command) (caller_number caller) command old new
