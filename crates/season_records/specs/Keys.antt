-- The keys of records.
use Rattle.std.specs.Prelude.{◌≡◌, ℕ, Bool, ◌&&◌, ◌==◌, if◌then◌else◌, Option, Some, None}
use Rattle.fpl_base.specs.declared.records.RecordKey.{RecordKey}
use Rattle.season_records.specs.declared.slot.Slot.{Slot}
use Rattle.season_records.specs.declared.slot.Slot.TheVariants as slot

-- a kind and three numbers
abbrev pub key : ℕ → ℕ → ℕ → ℕ → RecordKey
key kind a b c = record { kind = kind; a = a; b = b; c = c }

-- the key of the record that tells of it; parts that are not used are 0
abbrev pub key_of : Slot → RecordKey
key_of slot.Season = key 1 0 0 0
key_of (slot.Club club) = key 2 club 0 0
key_of (slot.Player player) = key 3 player 0 0
key_of (slot.Fixture fixture) = key 4 fixture 0 0
key_of (slot.Line fixture player) = key 5 fixture player 0
key_of (slot.Entry entry) = key 6 entry 0 0
key_of (slot.Team entry gameweek) = key 7 entry gameweek 0
key_of (slot.Transfer entry gameweek number) = key 8 entry gameweek number
key_of (slot.League league) = key 9 league 0 0
key_of (slot.Member league entry) = key 10 league entry 0
key_of (slot.Cup cup) = key 11 cup 0 0
key_of (slot.Last caller) = key 12 caller 0 0

-- the slot where the test holds
abbrev pub only : Bool → Slot → Option Slot
only holds s = if holds then Some s else None

-- the slot that a key names, if it names one
abbrev pub slot_of : RecordKey → Option Slot
slot_of k =
    if k.kind == 1 then only (k.a == 0 && k.b == 0 && k.c == 0) slot.Season
    else if k.kind == 2 then only (k.b == 0 && k.c == 0) (slot.Club k.a)
    else if k.kind == 3 then only (k.b == 0 && k.c == 0) (slot.Player k.a)
    else if k.kind == 4 then only (k.b == 0 && k.c == 0) (slot.Fixture k.a)
    else if k.kind == 5 then only (k.c == 0) (slot.Line k.a k.b)
    else if k.kind == 6 then only (k.b == 0 && k.c == 0) (slot.Entry k.a)
    else if k.kind == 7 then only (k.c == 0) (slot.Team k.a k.b)
    else if k.kind == 8 then Some (slot.Transfer k.a k.b k.c)
    else if k.kind == 9 then only (k.b == 0 && k.c == 0) (slot.League k.a)
    else if k.kind == 10 then only (k.c == 0) (slot.Member k.a k.b)
    else if k.kind == 11 then only (k.b == 0 && k.c == 0) (slot.Cup k.a)
    else if k.kind == 12 then only (k.b == 0 && k.c == 0) (slot.Last k.a)
    else None

-- a key that names a slot is that slot's, and each slot is named by its key
abbrev pub NamesItsSlot : Type 0
NamesItsSlot = (k : RecordKey) (s : Slot) → slot_of k ≡ Some s → k ≡ key_of s

abbrev pub HasItsName : Type 0
HasItsName = (s : Slot) → slot_of (key_of s) ≡ Some s
