-- How the leagues of a season come of records.
use Rattle.std.specs.Prelude.{◌≡◌, ◌+◌, ℕ, true, false, List, IsSomeAnd, Option, Some, None}
use Rattle.fpl_base.specs.Keeping.{map_of}
use Rattle.season_records.specs.declared.item.Item.{Item}
use Rattle.season_records.specs.declared.item.Item.TheVariants as item
use Rattle.season_records.specs.declared.slot.Slot.TheVariants as slot
use Rattle.rule_book.specs.Entries.{entry_in}
use Rattle.rule_book.specs.Leagues.{LeagueFacts}
use Rattle.stored_records.specs.Stored.{Rows, is_there, told}
use Rattle.store_validation.specs.LeagueRules.{members_of}
use Rattle.season_records.specs.Records.{league_item}

-- a league is what its record tells, and its members are those that have a record
pub record IsLeagueRestored (rows : Rows) (l : ℕ) (league : LeagueFacts) : Type 0 where
  pub own : Some (league_item l league) ≡ told (map_of rows) (slot.League l)
  pub of_rows : league.members ≡ members_of rows l

-- of the item of a league that league is made, and of others nothing
abbrev pub IsMadeOf : Rows → ℕ → Option Item → Option LeagueFacts → Type 0
IsMadeOf rows l (Some (item.League league kind start creator order code name)) made = IsSomeAnd made (IsLeagueRestored rows l)
IsMadeOf rows l other made = made ≡ None

-- each league is
abbrev pub AreLeaguesRestored : Rows → List LeagueFacts → Type 0
AreLeaguesRestored rows leagues = (l : ℕ) (league : LeagueFacts) → entry_in leagues l ≡ Some league → IsLeagueRestored rows l league

-- a record of the league behind so many is there
abbrev pub GoesOn : Rows → ℕ → Type 0
GoesOn rows count = is_there (map_of rows) (slot.League (count + 1)) ≡ true

-- no league is behind so many
abbrev pub LeaguesEnd : Rows → ℕ → Type 0
LeaguesEnd rows count = is_there (map_of rows) (slot.League (count + 1)) ≡ false
