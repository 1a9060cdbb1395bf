-- What the records of a book tell of its slots.
use Rattle.std.proofs.Common.{◌≡◌, Option, Some, None, refl, ap, subst, ◌∙◌}
use Rattle.std.specs.Prelude.{is_some, List, ℕ}
use Rattle.std.specs.Option.{option_map, option_and_then}
use Rattle.std.proofs.lemmas.Option.{none-some}
use Rattle.fpl_base.specs.declared.records.RecordKey.{RecordKey}
use Rattle.season_book.specs.Book.{Book}
use Rattle.season_records.specs.ItemReading.{item_of}
use Rattle.season_records.specs.Items.{body_of}
use Rattle.season_records.specs.Keys.{key_of, slot_of}
use Rattle.season_records.specs.declared.item.Item.{Item}
use Rattle.season_records.specs.declared.slot.Slot.{Slot}
use Rattle.season_records.proofs.ItemLaws.{item_back}
use Rattle.season_records.proofs.KeyLaws.{named, own_slot}
use Rattle.season_records.specs.Records.{records, told}
use Rattle.season_records.proofs.Slots.{slots_tell_of_themselves}
use Rattle.lawful_books.specs.Telling.{RecordsAreThere, RecordsAreTold}

-- the record of a slot is the body of what is told of it
pub at_slot : (book : Book) (s : Slot) → records book (key_of s) ≡ option_map body_of (told book s)
at_slot book s = ap (λ o. option_map body_of (option_and_then (told book) o)) (own_slot s)

pub records_are_told : RecordsAreTold
records_are_told book s item = ap (option_and_then (item_of (key_of s))) (at_slot book s) ∙ by (told book s) refl
  where
    by : (o : Option Item) → told book s ≡ o → option_and_then (item_of (key_of s)) (option_map body_of o) ≡ o
    by None at = refl
    by (Some i) at =
        subst (λ t. item_of (key_of t) (body_of i) ≡ Some i) (slots_tell_of_themselves book s i at) (item_back i (item i at))

pub records_are_there : RecordsAreThere
records_are_there book s = ap is_some (at_slot book s) ∙ by (told book s)
  where
    by : (o : Option Item) → is_some (option_map body_of o) ≡ is_some o
    by None = refl
    by (Some i) = refl

-- what has a record is a slot of which something is told
pub of_record : (book : Book) (key : RecordKey) (body : List ℕ) → records book key ≡ Some body
    → (s : Slot) × (key ≡ key_of s) × ((i : Item) × (told book s ≡ Some i) × (body_of i ≡ body))
of_record book key body = by (slot_of key) refl
  where
    by : (o : Option Slot) → slot_of key ≡ o → option_map body_of (option_and_then (told book) o) ≡ Some body
        → (s : Slot) × (key ≡ key_of s) × ((i : Item) × (told book s ≡ Some i) × (body_of i ≡ body))
    by None is at = absurd (none-some body at)
    by (Some s) is at = then (told book s) refl at
      where
        then : (o : Option Item) → told book s ≡ o → option_map body_of o ≡ Some body
            → (s : Slot) × (key ≡ key_of s) × ((i : Item) × (told book s ≡ Some i) × (body_of i ≡ body))
        then None of at = absurd (none-some body at)
        then (Some i) of at = (s, named key s is, (i, of, cc))
