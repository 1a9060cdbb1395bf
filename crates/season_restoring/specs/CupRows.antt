-- Cups, as records tell of them.
use Rattle.std.specs.Prelude.{◌≡◌, ℕ, List, Some}
use Rattle.std.specs.Option.{option_map}
use Rattle.leagues_and_cups.specs.Shapes.{HasShape}
use Rattle.fpl_base.specs.Keeping.{Map}
use Rattle.fpl_base.specs.declared.records.RecordKey.{RecordKey}
use Rattle.season_records.specs.ItemReading.{item_of}
use Rattle.season_records.specs.Keys.{key_of}
use Rattle.season_records.specs.declared.slot.Slot.TheVariants as slot
use Rattle.rule_book.specs.Entries.{entry_in}
use Rattle.rule_book.specs.declared.cup.Bracket.{Bracket}
use Rattle.stored_records.specs.Stored.{told}
use Rattle.season_records.specs.Records.{cup_item}

-- cups tell what the records of a map tell of such
abbrev pub TellsCups : Map → List Bracket → Type 0
TellsCups m cups = (c : ℕ) → option_map (cup_item c) (entry_in cups c) ≡ told m (slot.Cup c)

-- a key and a body tell of the cup of a number, which has the shape of one
pub record IsCupRow (number : ℕ) (key : RecordKey) (body : List ℕ) : Type 0 where
  pub cup : Bracket
  pub key_is : key ≡ key_of (slot.Cup number)
  pub is : item_of key body ≡ Some (cup_item number cup)
  pub shape : HasShape cup
