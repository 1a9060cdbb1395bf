-- Records of lawful facts break no rule.
use Rattle.std.specs.Prelude.{◌≡◌, ⊤, true, false, Some}
use Rattle.fpl_base.specs.Keeping.{KeysRise, map_of}
use Rattle.season_book.specs.Book.{Book, Facts}
use Rattle.season_records.specs.declared.item.Item.{Item}
use Rattle.season_records.specs.declared.slot.Slot.{Slot}
use Rattle.season_records.specs.declared.slot.Slot.TheVariants as slot
use Rattle.season_records.specs.Records.{records, told}
use Rattle.season_records.specs.Told.{TellsItems}
use Rattle.stored_records.specs.Stored.{Rows}
use Rattle.store_validation.specs.Lawful.{breaks, is_in_range}
use Rattle.lawful_books.specs.Facts.{AreLawful}

-- the slots that tell of the facts
abbrev pub IsOfFacts : Slot → Type 0
IsOfFacts slot.Season = ⊤
IsOfFacts (slot.Club c) = ⊤
IsOfFacts (slot.Player p) = ⊤
IsOfFacts (slot.Fixture f) = ⊤
IsOfFacts (slot.Line f p) = ⊤
IsOfFacts s = ⊥

-- records of a book with lawful facts
pub record AreOfLawful (book : Book) (facts : Facts) (rows : Rows) : Type 0 where
  pub facts_are : book.facts ≡ Some facts
  pub lawful : AreLawful facts
  pub items : TellsItems book
  pub rise : KeysRise rows
  pub same : map_of rows ≡ records book

-- what is told of the facts is in range and breaks no rule
abbrev pub FactsBreakNoRule : Type 0
FactsBreakNoRule = (book : Book) (facts : Facts) (rows : Rows) → AreOfLawful book facts rows
    → (s : Slot) → IsOfFacts s → (i : Item) → told book s ≡ Some i → (is_in_range i ≡ true) × (breaks rows i ≡ false)
