-- What records tell of an entry, and when its teams and transfers may stand.
use Rattle.std.specs.Prelude.{ℕ, ◌+◌, Bool, false, ◌&&◌, ◌==◌, Option, Some, None, nat_le, nat_lt, length, if◌then◌else◌}
use Rattle.std.specs.Option.{option_map_or}
use Rattle.fpl_base.specs.Keeping.{Map}
use Rattle.fpl_base.specs.declared.kinds.Chip.{Chip}
use Rattle.fpl_base.specs.declared.kinds.Chip.TheVariants.{None as NoChip}
use Rattle.rule_book.specs.declared.transfers.Sale.{Sale}
use Rattle.season_records.specs.declared.item.Item.{Item}
use Rattle.season_records.specs.declared.item.Item.TheVariants as item
use Rattle.season_records.specs.declared.slot.Slot.TheVariants as slot
use Rattle.stored_records.specs.declared.entry_told.RecordedTeam.{RecordedTeam}
use Rattle.stored_records.specs.declared.terms.Terms.{Terms}
use Rattle.stored_records.specs.SeasonRules.{terms_told}
use Rattle.stored_records.specs.Stored.{told}

-- the first gameweek of an entry; none where it is not registered or not there
abbrev pub first_in : Option Item → Option ℕ
first_in (Some (item.Entry entry first key name)) = first
first_in other = None

abbrev pub first_told : Map → ℕ → Option ℕ
first_told m e = first_in (told m (slot.Entry e))

-- the team of an entry in a gameweek
abbrev pub team_in : Option Item → Option RecordedTeam
team_in (Some (item.Team entry gameweek picks captain vice bank chip)) =
    Some (record { picks = picks; captain = captain; vice = vice; bank = bank; chip = chip })
team_in other = None

abbrev pub team_told : Map → ℕ → ℕ → Option RecordedTeam
team_told m e g = team_in (told m (slot.Team e g))

-- the chip of a gameweek: none without a team
abbrev pub chip_in : Option RecordedTeam → Chip
chip_in None = NoChip
chip_in (Some t) = t.chip

abbrev pub chip_told : Map → ℕ → ℕ → Chip
chip_told m e g = chip_in (team_told m e g)

-- a transfer of an entry in a gameweek, by its number
abbrev pub sale_in : Option Item → Option Sale
sale_in (Some (item.Transfer entry gameweek number out into sold bought)) =
    Some (record { out = out; into = into; sold = sold; bought = bought })
sale_in other = None

abbrev pub sale_told : Map → ℕ → ℕ → ℕ → Option Sale
sale_told m e g n = sale_in (told m (slot.Transfer e g n))

-- the last gameweek that may have teams and transfers: the next one, or the last one where all are locked
abbrev pub last_open : Terms → ℕ
last_open terms = if nat_lt terms.locked (length terms.deadlines) then terms.locked + 1 else length terms.deadlines

-- a gameweek is there, not before an entry's first, and not after the last that may have teams and transfers
abbrev pub is_between_ends : Terms → ℕ → ℕ → Bool
is_between_ends terms first g =
    nat_le 1 g && nat_le g (length terms.deadlines) && nat_le first g && nat_le g (last_open terms)

-- a team or a transfer of this entry and gameweek may stand: the entry is registered, and the gameweek is in its time
abbrev pub is_in_time : Map → ℕ → ℕ → Bool
is_in_time m e g = option_map_or (λ first. is_between_ends (terms_told m) first g) (first_told m e) false

-- the gameweek is the entry's first
abbrev pub is_first_of : Map → ℕ → ℕ → Bool
is_first_of m e g = option_map_or (λ first. first == g) (first_told m e) false
