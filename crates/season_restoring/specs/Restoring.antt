-- How the entries of a season come of records.
use Rattle.std.specs.Prelude.{◌≡◌, ◌≤◌, ◌+◌, ℕ, zero, suc, Bool, true, false, List, [], ◌∷◌, ◌++◌, map, Option, Some, None, ⊤}
use Rattle.std.specs.Option.{option_map}
use Rattle.fpl_base.specs.Keeping.{Map}
use Rattle.fpl_base.specs.declared.kinds.Chip.{Chip}
use Rattle.fpl_base.specs.declared.kinds.Position.{Position}
use Rattle.rule_book.specs.declared.player.Player.{Player}
use Rattle.rule_book.specs.declared.team.Pick.{Pick}
use Rattle.rule_book.specs.declared.team.Team.{Team}
use Rattle.rule_book.specs.declared.transfers.Sale.{Sale}
use Rattle.rule_book.specs.Entries.{entry_in}
use Rattle.rule_book.specs.Players.{player_of}
use Rattle.season_ledger.specs.Rows.{AllUpTo}
use Rattle.manager_book.specs.declared.manager.Manager.{Manager}
use Rattle.manager_book.specs.Calls.{with_gameweek}
use Rattle.season_records.specs.declared.item.Item.{Item}
use Rattle.season_records.specs.declared.item.Item.TheVariants as item
use Rattle.season_records.specs.declared.slot.Slot.TheVariants as slot
use Rattle.stored_records.specs.EntryTold.{last_open}
use Rattle.stored_records.specs.SeasonRules.{terms_told}
use Rattle.stored_records.specs.Sequels.{sales_told}
use Rattle.stored_records.specs.Stored.{told}
use Rattle.season_records.specs.Records.{player_item}
use Rattle.season_restoring.specs.declared.managers.Parts.{Parts}
use Rattle.record_changes.specs.Ordered.{IsManagerInOrder}
use Rattle.record_changes.specs.RowsTold.{manager_item, team_by, transfer_by}

-- players are those that records tell
abbrev pub ArePlayersTold : List Player → Map → Type 0
ArePlayersTold players m = (p : ℕ) → option_map (player_item p) (player_of players p) ≡ told m (slot.Player p)

-- What records tell of one entry.

-- a player of a record at his position
abbrev pub pick_placed : (ℕ → Position) → ℕ × ℕ → Pick
pick_placed position pick = record { player = pick.0; position = position pick.0; bought = pick.1 }

-- a team of these, each player at his position
abbrev pub team_of : (ℕ → Position) → List (ℕ × ℕ) → ℕ → ℕ → ℕ → Chip → Team
team_of position picks captain vice bank chip =
    record { picks = map (pick_placed position) picks; captain = captain; vice = vice; bank = bank; chip = chip }

-- the team that is told, each player at his position
abbrev pub team_placed : (ℕ → Position) → Option Item → Option Team
team_placed position (Some (item.Team entry gameweek picks captain vice bank chip)) = Some (team_of position picks captain vice bank chip)
team_placed position other = None

-- the team of an entry in a gameweek
abbrev pub placed : (ℕ → Position) → Map → ℕ → ℕ → Option Team
placed position m e g = team_placed position (told m (slot.Team e g))

-- a bank is an amount of money
abbrev pub HasBank : Option Item → Type 0
HasBank (Some (item.Team entry gameweek picks captain vice bank chip)) = bank ≤ 10000000
HasBank other = ⊤

-- each bank of an entry is
abbrev pub HaveBanks : Map → ℕ → Type 0
HaveBanks m e = (g : ℕ) → HasBank (told m (slot.Team e g))

-- what so many numbers give, one after another, from one on
unfoldable pub through : {A : Type 0} → (ℕ → List A) → ℕ → ℕ → List A
through f zero g = []
through f (suc k) g = f g ++ through f k (g + 1)

-- a team beside its gameweek, where there is one
abbrev pub beside : ℕ → Option Team → List (ℕ × Team)
beside g None = []
beside g (Some t) = (g, t) ∷ []

-- the teams of an entry, by gameweek
abbrev pub teams_told : (ℕ → Position) → Map → ℕ → List (ℕ × Team)
teams_told position m e = through (λ g. beside g (placed position m e g)) 38 1

-- the transfers of an entry, by gameweek and number
abbrev pub entry_sales_told : Map → ℕ → List (ℕ × Sale)
entry_sales_told m e = through (λ g. with_gameweek g (sales_told m e g)) 38 1

-- a transfer is added behind others, where there is one
abbrev pub AddsSale : ℕ → Option Sale → Bool → List (ℕ × Sale) → List (ℕ × Sale) → Type 0
AddsSale g None there old new = (there ≡ false) × (new ≡ old)
AddsSale g (Some s) there old new = (there ≡ true) × (new ≡ old ++ (g, s) ∷ [])

-- What is made of them.

-- a manager has what records tell of an entry, in order and not later than the last gameweek that may have something
pub record IsRestored (m : Map) (players : List Player) (e : ℕ) (manager : Manager) : Type 0 where
  pub entry : Some (manager_item e manager) ≡ told m (slot.Entry e)
  pub teams : (g : ℕ) → team_by e g manager ≡ told m (slot.Team e g)
  pub transfers : (g n : ℕ) → transfer_by e g n manager ≡ told m (slot.Transfer e g n)
  pub ordered : IsManagerInOrder players manager
  pub early : AllUpTo (last_open (terms_told m)) manager.season

-- each manager does
abbrev pub AreRestored : Map → List Player → List Manager → Type 0
AreRestored m players managers = (e : ℕ) (manager : Manager) → entry_in managers e ≡ Some manager → IsRestored m players e manager

-- a record tells this of an entry
abbrev pub IsTold : Map → ℕ → Option ℕ → List ℕ → List ℕ → Type 0
IsTold m e first key name = told m (slot.Entry e) ≡ Some (item.Entry e first key name)

-- what the record of an entry tells
abbrev pub parts_of : Option Item → Option Parts
parts_of (Some (item.Entry entry first key name)) = Some (record { first = first; key = key; name = name })
parts_of other = None

-- no entry is behind so many
abbrev pub EndsAt : Map → ℕ → Type 0
EndsAt m count = told m (slot.Entry (count + 1)) ≡ None

-- there is one entry more, or the entries end
abbrev pub HasIssued : Map → Bool → ℕ → ℕ → Type 0
HasIssued m true old new = new ≡ old + 1
HasIssued m false old new = (new ≡ old) × EndsAt m new
