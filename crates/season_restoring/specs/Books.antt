-- A running season as records tell it.
use Rattle.std.specs.Prelude.{◌≡◌, ◌<◌, ℕ, [], Option, Some, None, AllPairs}
use Rattle.std.specs.List.{AllByRecursion as Each}
use Rattle.std.specs.Option.{option_map, option_and_then}
use Rattle.fpl_base.specs.Keeping.{Map, map_of}
use Rattle.rule_book.specs.Entries.{entry_in}
use Rattle.rule_book.specs.Leagues.{LeagueFacts}
use Rattle.season_records.specs.declared.slot.Slot.TheVariants as slot
use Rattle.season_records.specs.Records.{cup_item, league_item, member_told}
use Rattle.season_records.specs.Told.{AreInOrder}
use Rattle.stored_records.specs.Stored.{Rows, told}
use Rattle.season_running.specs.Standing.{Running}
use Rattle.record_changes.specs.Ordered.{IsManagerInOrder}
use Rattle.record_changes.specs.RowsTold.{manager_item, team_by, transfer_by}
use Rattle.season_restoring.specs.Restored.{TellsFacts}

-- at each slot it tells what the records tell
pub record RunningTells (m : Map) (running : Running) : Type 0 where
  pub facts : TellsFacts m running.facts
  pub entries : (e : ℕ) → option_map (manager_item e) (entry_in running.managers e) ≡ told m (slot.Entry e)
  pub teams : (e g : ℕ) → option_and_then (team_by e g) (entry_in running.managers e) ≡ told m (slot.Team e g)
  pub transfers : (e g n : ℕ) → option_and_then (transfer_by e g n) (entry_in running.managers e) ≡ told m (slot.Transfer e g n)
  pub leagues : (l : ℕ) → option_map (league_item l) (entry_in running.leagues l) ≡ told m (slot.League l)
  pub members : (l e : ℕ) → option_and_then (member_told l e) (entry_in running.leagues l) ≡ told m (slot.Member l e)
  pub cups : (c : ℕ) → option_map (cup_item c) (entry_in running.cups c) ≡ told m (slot.Cup c)

-- its rows are in order
pub record IsRunningInOrder (running : Running) : Type 0 where
  pub facts : AreInOrder running.facts
  pub managers : Each (IsManagerInOrder running.facts.players) running.managers
  pub members : (l : ℕ) (league : LeagueFacts) → entry_in running.leagues l ≡ Some league → AllPairs (λ m n. m < n) league.members

-- a season that runs, of these records; or none, of no records
abbrev pub MayRun : Rows → Option Running → Type 0
MayRun rows None = rows ≡ []
MayRun rows (Some running) = RunningTells (map_of rows) running × IsRunningInOrder running
