-- What a command changes that a host's cells hang on, and when cells are those of a host.
use Rattle.std.specs.Prelude.{◌≡◌, ◌+◌, ◌*◌, ℕ, ⊤, Option, None, Some}
use Rattle.std.specs.Option.{option_map}
use Rattle.season_nodes.specs.Season.{IsSeason, SeasonFacts}
use Rattle.season_book.specs.Verdict.{locked_at}
use Rattle.season_book.specs.declared.command.Command.{Command}
use Rattle.season_cells.specs.Correcting.{IsCheap, IsCorrected}
use Rattle.season_cells.specs.Kept.{AreCellsOf, CellRows, season_seen}
use Rattle.season_cells.specs.Leading.{LeadsTo}
use Rattle.season_cells.specs.Plans.{lines_named}
use Rattle.season_cells.specs.declared.plan.Plan.{Plan}
use Rattle.season_running.specs.Standing.{HostRows, Running}
use Rattle.season_host.specs.declared.change.Change.{Change}
use Rattle.season_host.specs.declared.change.Change.TheVariants as change

-- the season that runs in a host
abbrev pub running_in : HostRows → Option Running
running_in host = option_map (λ facts. record { facts = facts; managers = host.managers; leagues = host.leagues; cups = host.cups }) host.facts

-- a season that runs, as cells see it
abbrev pub running_seen : Running → SeasonFacts
running_seen running = season_seen running.facts running.managers running.leagues running.cups

-- the cells of a season that runs; none where none does
abbrev pub AreCellsNow : Option Running → Option CellRows → Type 0
AreCellsNow None cells = cells ≡ None
AreCellsNow (Some running) None = ⊥
AreCellsNow (Some running) (Some cells) = AreCellsOf (running_seen running) cells

-- the cells of a host
abbrev pub AreCellsOfHost : HostRows → Option CellRows → Type 0
AreCellsOfHost host cells = AreCellsNow (running_in host) cells

-- the cells of a season that went on: what that touches was evaluated once more, what depends on it at most once more, and
-- no other cell changed
abbrev pub AreCorrectedNow : Option Running → Option Running → Option CellRows → Option CellRows → Type 0
AreCorrectedNow (Some before) (Some after) (Some old) (Some new) = IsCorrected (running_seen before) (running_seen after) old.cells new.cells
AreCorrectedNow before after old new = ⊤

-- so of the cells of a host
abbrev pub AreCorrected : HostRows → HostRows → Option CellRows → Option CellRows → Type 0
AreCorrected before after old new = AreCorrectedNow (running_in before) (running_in after) old new

-- how many lines a command is compared with in the season that runs; none where none does
abbrev pub lines_in : Option Running → Command → ℕ
lines_in None command = 0
lines_in (Some running) command = lines_named running.facts command

-- a call on a season that went on counted at most the reads by which what that touches, and what depends on it, are evaluated;
-- nothing is said where a season began, all of whose cells are made
abbrev pub IsCheapNow : Option Running → Option Running → ℕ → ℕ → Type 0
IsCheapNow (Some before) (Some after) old new = IsCheap (running_seen before) (running_seen after) old new
IsCheapNow before after old new = ⊤

-- so of a host that was given a command, and beside them at most 2 for each line that this is compared with, and 8
abbrev pub IsCheapCommand : HostRows → HostRows → Command → ℕ → ℕ → Type 0
IsCheapCommand before after command old new =
    IsCheapNow (running_in before) (running_in after) (old + 2 * lines_in (running_in before) command + 8) new

-- from a season that runs, whose facts are those of a season, a plan leads to another
abbrev pub LeadsFrom : Running → Running → Plan → Type 0
LeadsFrom old new plan = IsSeason (running_seen old) → LeadsTo (running_seen old) (running_seen new) plan

-- the season that runs went on as a plan says
abbrev pub LeadsNow : Option Running → Option Running → Plan → Type 0
LeadsNow (Some old) (Some new) plan = LeadsFrom old new plan
LeadsNow old new plan = ⊥

-- what an answer changed of a season that runs
abbrev pub IsChangeOf : Running → Running → Change → Type 0
IsChangeOf old new (change.Plan plan) = LeadsFrom old new plan
IsChangeOf old new other = ⊥

-- what it changed of a host: nothing; no season ran before; or the one that runs went on as a plan says
abbrev pub IsChange : HostRows → HostRows → Change → Type 0
IsChange old new change.Nothing = new ≡ old
IsChange old new change.Season = running_in old ≡ None
IsChange old new (change.Plan plan) = LeadsNow (running_in old) (running_in new) plan

-- a season that runs went on by a moment, before which so many gameweeks were locked
pub record Locks (old new : Running) (first : ℕ) : Type 0 where
  pub now : ℕ
  pub facts : new.facts ≡ locked_at now old.facts
  pub managers : new.managers ≡ old.managers
  pub leagues : new.leagues ≡ old.leagues
  pub cups : new.cups ≡ old.cups
  pub before : first ≡ old.facts.calendar.locked

abbrev pub LocksNow : Option Running → Option Running → ℕ → Type 0
LocksNow (Some old) (Some new) first = Locks old new first
LocksNow None None first = ⊤
LocksNow old new first = ⊥
