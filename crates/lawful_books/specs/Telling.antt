-- What the records of a book tell of its slots, and how few of them stand among others.
use Rattle.std.specs.Prelude.{◌≡◌, ◌≤◌, ◌<◌, ◌==◌, ℕ, Bool, true, false, List, length, count_by, Some, is_some}
use Rattle.std.specs.List.{list_any}
use Rattle.fpl_base.specs.Keeping.{KeysRise, is_same_key, map_of}
use Rattle.fpl_base.specs.declared.records.RecordKey.{RecordKey}
use Rattle.season_book.specs.Book.{Book}
use Rattle.season_records.specs.Keys.{key_of}
use Rattle.season_records.specs.declared.item.Item.{Item}
use Rattle.season_records.specs.declared.slot.Slot.{Slot}
use Rattle.season_records.specs.declared.slot.Slot.TheVariants as slot
use Rattle.season_records.specs.Records.{records, told}
use Rattle.season_records.specs.Told.{TellsItem}
use Rattle.stored_records.specs.SeasonRules.{is_full}
use Rattle.stored_records.specs.Stored.{Rows, is_there, is_within, told as told_of}

-- an item is read back from the record of its slot
abbrev pub RecordsAreTold : Type 0
RecordsAreTold = (book : Book) (s : Slot) → TellsItem book s → told_of (records book) s ≡ told book s

-- and a record is there where something is told
abbrev pub RecordsAreThere : Type 0
RecordsAreThere = (book : Book) (s : Slot) → is_there (records book) s ≡ is_some (told book s)

-- each record that passes the test has one of these keys
abbrev pub HaveKeys : Rows → (RecordKey × List ℕ → Bool) → List RecordKey → Type 0
HaveKeys rows test keys =
    (key : RecordKey) (body : List ℕ) → map_of rows key ≡ Some body → test (key, body) ≡ true
    → list_any (λ k. is_same_key k key) keys ≡ true

-- there are no more such records than keys
abbrev pub FewStand : Type 0
FewStand = (rows : Rows) (test : RecordKey × List ℕ → Bool) (keys : List RecordKey) → KeysRise rows → HaveKeys rows test keys
    → count_by test rows ≤ length keys

-- and fewer, where one of the keys is of no such record
abbrev pub FewerStand : Type 0
FewerStand = (rows : Rows) (test : RecordKey × List ℕ → Bool) (keys : List RecordKey) (this : RecordKey)
    → KeysRise rows → HaveKeys rows test keys → list_any (λ k. is_same_key k this) keys ≡ true
    → ((body : List ℕ) → test (this, body) ≡ false) → count_by test rows < length keys

-- slots by number of which no others stand between the first and any other
abbrev pub IsFamily : (ℕ → Slot) → Type 0
IsFamily family = (this : ℕ) (s : Slot) → is_within (key_of (family 0)) (key_of (family this)) (key_of s) ≡ true
    → (n : ℕ) × (s ≡ family n)

-- such are clubs, players, fixtures, lines of a fixture, entries, leagues, members of a league, and cups
abbrev pub AreFamilies : Type 0
AreFamilies =
    IsFamily slot.Club × IsFamily slot.Player × IsFamily slot.Fixture × ((fixture : ℕ) → IsFamily (slot.Line fixture))
    × IsFamily slot.Entry × IsFamily slot.League × ((league : ℕ) → IsFamily (slot.Member league)) × IsFamily slot.Cup

-- no limit is reached before a slot, where there are not more numbers of such slots, of which this slot's is one
abbrev pub NoneIsFull : Type 0
NoneIsFull = (book : Book) (rows : Rows) (most : ℕ) (family : ℕ → Slot) (ids : List ℕ) (this : ℕ)
    → IsFamily family → KeysRise rows → map_of rows ≡ records book
    → ((n : ℕ) (i : Item) → told book (family n) ≡ Some i → list_any (λ id. id == n) ids ≡ true)
    → list_any (λ id. id == this) ids ≡ true → length ids ≤ most
    → is_full rows most (family 0) (family this) ≡ false
