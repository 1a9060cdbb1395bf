-- What is made of the records that a keeper gives, and the books whose records can be made anew.
use Rattle.std.specs.Prelude.{◌≡◌, ◌≤◌, ℕ, None, Option, Some}
use Rattle.fpl_base.specs.Keeping.{KeysRise, Map, map_of}
use Rattle.fpl_base.specs.declared.records.RecordKey.{RecordKey}
use Rattle.season_records.specs.declared.slot.Slot.{Slot}
use Rattle.season_book.specs.Book.{Book, empty_book}
use Rattle.stored_records.specs.Stored.{Rows, told}
use Rattle.store_validation.specs.Lawful.{judged}
use Rattle.season_records.specs.Keeping.{AreEarly}
use Rattle.season_records.specs.Records.{records}
use Rattle.season_records.specs.Told.{IsInOrder, TellsItems}
use Rattle.record_changes.specs.Ordered.{AreRowsInOrder}
use Rattle.record_changes.specs.RowsTold.{told_by}
use Rattle.season_running.specs.Standing.{HostRows, StandsIn}

-- Books.

-- a book that can be made anew of its records: rows stood for it, nothing in it was done too early, it is in order, and
-- what it tells has values in their ranges
pub record IsKeepable (book : Book) : Type 0 where
  pub rows : HostRows
  pub stood : StandsIn rows book
  pub early : AreEarly book
  pub order : IsInOrder book
  pub items : TellsItems book

-- the empty book can be
abbrev pub EmptyIsKeepable : Type 0
EmptyIsKeepable = IsKeepable empty_book

-- Maps of records.

-- this is the key of the first record of a map that is not lawful; none where all are
pub record IsJudgedAs (m : Map) (key : Option RecordKey) : Type 0 where
  pub rows : Rows
  pub rise : KeysRise rows
  pub map : m ≡ map_of rows
  pub judged : judged rows ≡ key

-- rows were made of the records of a map, which are lawful: they are in order, and at each slot they tell what the record
-- there tells
pub record AreMadeOf (m : Map) (rows : HostRows) : Type 0 where
  pub lawful : IsJudgedAs m None
  pub order : AreRowsInOrder rows
  pub told : (s : Slot) → told_by rows s ≡ told m s

-- rows that were made of the records of a book that can be made anew stand for that book
abbrev pub LoadedRowsStand : Type 0
LoadedRowsStand = (m : Map) (rows : HostRows) (book : Book) → AreMadeOf m rows → IsKeepable book → m ≡ records book
    → StandsIn rows book

-- Keepers.

-- a keeper behind a call: it failed as often as before it or more, where it tells now it told, and where it serves too it
-- served
abbrev pub IsLater : {K : Type 0} → (K → Type 0) → (K → Type 0) → (K → ℕ) → K → K → Type 0
IsLater tells serves faults old new = (faults old ≤ faults new) × (tells new → tells old) × (tells new → serves new → serves old)

-- a keeper gave a map: where it tells, that is the one that it held, it holds that map still, and a stop leaves that one
-- alone
pub record IsLoaded (tells : Type 0) (before after passes : Map → Type 0) (m : Map) : Type 0 where
  pub same : tells → (held : Map) → before held → held ≡ m
  pub holds : tells → (held : Map) → before held → after held
  pub alone : tells → (held : Map) → before held → (x : Map) → passes x → x ≡ held

-- rows were made of the map that a keeper gave
pub record AreLoaded (tells : Type 0) (before after passes : Map → Type 0) (rows : HostRows) : Type 0 where
  pub map : Map
  pub loaded : IsLoaded tells before after passes map
  pub made : AreMadeOf map rows

-- a keeper gave a map whose first record that is not lawful has this key
pub record IsDamaged (tells : Type 0) (before after passes : Map → Type 0) (key : RecordKey) : Type 0 where
  pub map : Map
  pub loaded : IsLoaded tells before after passes map
  pub judged : IsJudgedAs map (Some key)
