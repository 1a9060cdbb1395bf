-- What changes of a season leave of its entries, and whose keys are.
use Rattle.std.specs.Prelude.{◌≡◌, ◌≤◌, ◌<◌, ℕ, List, Some, None, length}
use Rattle.std.specs.Option.{option_map}
use Rattle.fpl_base.specs.declared.kinds.Caller.TheVariants.{Entry}
use Rattle.rule_book.specs.declared.player.Player.{Player}
use Rattle.rule_book.specs.Calendar.{next_gameweek}
use Rattle.rule_book.specs.Entries.{entry_in}
use Rattle.rule_book.specs.EntryRecords.{sales_in}
use Rattle.rule_book.specs.Players.{ArePlayers}
use Rattle.season_ledger.specs.Rows.{used_by}
use Rattle.manager_book.specs.declared.manager.Manager.{Manager}
use Rattle.manager_book.specs.Managers.{Managers, entry_with, manager_in}
use Rattle.season_book.specs.Book.{EntryFacts, Facts}
use Rattle.season_book.specs.Commands.{changed_by}
use Rattle.season_book.specs.Doing.{IsGranted}
use Rattle.season_book.specs.EntryViews.{gameweek_seen}
use Rattle.season_book.specs.Hosts as hosts
use Rattle.season_book.specs.Verdict.{locked_at}
use Rattle.season_book.specs.declared.command.Command.{Command}
use Rattle.season_entries.specs.Deeds.{AreInTime}
use Rattle.season_entries.specs.Entries.{AreEntries, IsEntry}
use Rattle.season_entries.specs.Keys.{keys_of}

-- nothing was done in a later gameweek than the next, or than the last where all are locked
abbrev pub AreEarly : Facts → List Manager → Type 0
AreEarly facts managers = AreInTime (Some (gameweek_seen facts.calendar)) managers

-- behind a command on the facts the managers stand for the same entries, and nothing was done later than the next
-- gameweek
pub record EntriesStay (facts : Facts) (command : Command) (managers : List Manager) : Type 0 where
  pub books : (entries : List EntryFacts) → AreEntries facts.players managers entries
      → AreEntries (changed_by facts command).players managers entries
  pub later : AreEarly facts managers → AreEarly (changed_by facts command) managers

abbrev pub FactsLeaveEntries : Type 0
FactsLeaveEntries = (facts : Facts) (now : ℕ) (command : Command) (managers : List Manager)
    → IsGranted facts now command → EntriesStay facts command managers

-- when a moment was told, nothing was done later than the next gameweek either
abbrev pub MomentsLeaveEntries : Type 0
MomentsLeaveEntries = (facts : Facts) (now : ℕ) (managers : List Manager) → AreEarly facts managers → AreEarly (locked_at now facts) managers

-- so the managers act in time
abbrev pub EarlyIsInTime : Type 0
EarlyIsInTime = (facts : Facts) (managers : List Manager) → AreEarly facts managers → AreInTime (next_gameweek facts.calendar) managers

-- and what is in time where a gameweek is open is early
abbrev pub InTimeIsEarly : Type 0
InTimeIsEarly = (facts : Facts) (g : ℕ) (managers : List Manager) → next_gameweek facts.calendar ≡ Some g
    → AreInTime (next_gameweek facts.calendar) managers → AreEarly facts managers

-- whose key bytes are among the entries of a book, the managers say who stand for them
abbrev pub OwnersAreAlike : Type 0
OwnersAreAlike = (players : List Player) (managers : Managers) (entries : List EntryFacts) (bytes : List ℕ)
    → AreEntries players managers.managers entries
    → hosts.entry_with (hosts.keys_of entries) bytes ≡ option_map Entry (entry_with managers bytes)

-- whose key bytes are by the managers' keys alone
abbrev pub ManagersOwnTheirKeys : Type 0
ManagersOwnTheirKeys = (managers : Managers) (bytes : List ℕ)
    → hosts.entry_with (keys_of managers.managers) bytes ≡ option_map Entry (entry_with managers bytes)

-- of a manager who stands for an entry, each gameweek's row has as many transfers as his sales have
abbrev pub RowsCountSales : Type 0
RowsCountSales = (players : List Player) (manager : Manager) (entry : EntryFacts) (g : ℕ) → ArePlayers players
    → IsEntry players manager entry → used_by manager.season g ≡ length (sales_in manager.sales g)

-- an entry of a book is there exactly where a manager stands for it
pub record IsIssued (players : List Player) (managers : List Manager) (entries : List EntryFacts) (e : ℕ) : Type 0 where
  pub there : 1 ≤ e → e ≤ length managers → (entry : EntryFacts) × (entry_in entries e ≡ Some entry) × IsEntry players (manager_in managers e) entry
  pub none : length managers < e → entry_in entries e ≡ None

abbrev pub EntriesAreIssued : Type 0
EntriesAreIssued = (players : List Player) (managers : List Manager) (entries : List EntryFacts) (e : ℕ)
    → AreEntries players managers entries → IsIssued players managers entries e
