-- What the rows of a host tell, and when rows stand for a book.
use Rattle.std.specs.Prelude.{◌≡◌, Option, Some}
use Rattle.std.specs.Option.{option_and_then}
use Rattle.fpl_base.specs.Keeping.{Map}
use Rattle.season_book.specs.Book.{Book}
use Rattle.season_records.specs.ItemReading.{item_of}
use Rattle.season_records.specs.Keys.{key_of}
use Rattle.season_records.specs.Ranges.{IsItem}
use Rattle.season_records.specs.declared.item.Item.{Item}
use Rattle.season_records.specs.declared.slot.Slot.{Slot}
use Rattle.season_records.specs.Records.{at_keys, records, told}
use Rattle.season_records.specs.Told.{IsInOrder, TellsItem, TellsItems}
use Rattle.season_running.specs.EntryLaws.{IsOrderlyHost}
use Rattle.season_running.specs.Standing.{HostRows, StandsIn}
use Rattle.record_changes.specs.Ordered.{AreRowsInOrder}
use Rattle.record_changes.specs.RowsTold.{told_by}

-- What a host tells.

-- rows tell the same of each slot as a book
abbrev pub TellAs : HostRows → Book → Type 0
TellAs rows book = (s : Slot) → told_by rows s ≡ told book s

-- an orderly host tells what each book tells that it stands for
abbrev pub RowsTellRecords : Type 0
RowsTellRecords = (host : HostRows) (book : Book) → IsOrderlyHost host → StandsIn host book → TellAs host book

-- the records of rows
abbrev pub records_by : HostRows → Map
records_by rows = at_keys (told_by rows)

-- so its records are those of the book
abbrev pub RowsHaveRecords : Type 0
RowsHaveRecords = (host : HostRows) (book : Book) → IsOrderlyHost host → StandsIn host book → records_by host ≡ records book

-- and where what it tells has values in their ranges, so has what the book tells
abbrev pub ItemsAreTold : Type 0
ItemsAreTold = (host : HostRows) (book : Book) → IsOrderlyHost host → StandsIn host book
    → ((s : Slot) (i : Item) → told_by host s ≡ Some i → IsItem i) → TellsItems book

-- What stands for a book.

-- rows in order that tell what a book in order tells stand for it, where some rows stood for it before
abbrev pub RowsInOrderStand : Type 0
RowsInOrderStand = (old made : HostRows) (book : Book) → StandsIn old book → IsInOrder book → TellsItems book
    → AreRowsInOrder made → TellAs made book → StandsIn made book

-- what a map of records tells of a slot: the body of the slot's record, read
abbrev pub read_in : Map → Slot → Option Item
read_in m s = option_and_then (item_of (key_of s)) (m (key_of s))

-- the records of a book tell what the book tells, where its values are in their ranges
abbrev pub RecordsAreRead : Type 0
RecordsAreRead = (book : Book) (s : Slot) → TellsItem book s → read_in (records book) s ≡ told book s

-- so rows in order that tell what these records tell stand for the book
abbrev pub RestoredRowsStand : Type 0
RestoredRowsStand = (m : Map) (old made : HostRows) (book : Book) → StandsIn old book → IsInOrder book → TellsItems book
    → m ≡ records book → AreRowsInOrder made → ((s : Slot) → told_by made s ≡ read_in m s) → StandsIn made book
