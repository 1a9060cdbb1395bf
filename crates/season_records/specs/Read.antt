-- What is read of records has values in their ranges.
use Rattle.std.specs.Prelude.{◌≡◌, ℕ, List, Option, Some}
use Rattle.std.specs.List.{AllByRecursion}
use Rattle.std.specs.Option.{option_and_then}
use Rattle.fpl_base.specs.Keeping.{Map, map_of}
use Rattle.fpl_base.specs.declared.records.RecordKey.{RecordKey}
use Rattle.season_book.specs.Book.{Book}
use Rattle.season_records.specs.ItemReading.{item_of}
use Rattle.season_records.specs.Keys.{key_of}
use Rattle.season_records.specs.Laws.{IsBytes}
use Rattle.season_records.specs.declared.item.Item.{Item}
use Rattle.season_records.specs.declared.slot.Slot.{Slot}
use Rattle.season_records.specs.Records.{told}
use Rattle.season_records.specs.Told.{TellsItems}

-- what a map of records tells of a slot: the body of the slot's record, read
abbrev pub read_in : Map → Slot → Option Item
read_in m s = option_and_then (item_of (key_of s)) (m (key_of s))

-- a book that tells what the records of a map tell
abbrev pub TellsAsRead : Map → Book → Type 0
TellsAsRead m book = (s : Slot) → told book s ≡ read_in m s

-- its values are in their ranges where the bodies are bytes
abbrev pub BytesTellItems : Type 0
BytesTellItems =
    (m : Map) (book : Book) → ((k : RecordKey) (body : List ℕ) → m k ≡ Some body → IsBytes body)
    → TellsAsRead m book → TellsItems book

-- the body of a row is of bytes
abbrev pub HasBytes : RecordKey × List ℕ → Type 0
HasBytes row = IsBytes row.1

-- and so they are where the body of each row is
abbrev pub RowsTellItems : Type 0
RowsTellItems =
    (rows : List (RecordKey × List ℕ)) (book : Book)
    → AllByRecursion HasBytes rows → TellsAsRead (map_of rows) book → TellsItems book
