-- The records of a book, read back.
use Rattle.std.proofs.Common.{◌≡◌, Option, Some, None, refl, sym, ap, ◌∙◌}
use Rattle.std.specs.Option.{option_map, option_and_then}
use Rattle.fpl_base.specs.Keeping.{Map}
use Rattle.season_records.specs.ItemReading.{item_of}
use Rattle.season_records.specs.Items.{body_of, slot_of_item}
use Rattle.season_records.specs.Keys.{key_of}
use Rattle.season_records.specs.Ranges.{IsItem}
use Rattle.season_records.specs.declared.item.Item.{Item}
use Rattle.season_records.specs.declared.slot.Slot.{Slot}
use Rattle.season_records.proofs.ItemLaws.{item_back}
use Rattle.season_records.proofs.KeyLaws.{own_slot}
use Rattle.season_records.specs.Records.{told}
use Rattle.season_records.proofs.Slots.{slots_tell_of_themselves}
use Rattle.record_changes.specs.Laws.{RecordsAreRead, RestoredRowsStand, read_in}
use Rattle.record_changes.proofs.RowsStand.{rows_in_order_stand}

read_back : (s : Slot) (o : Option Item) → ((i : Item) → o ≡ Some i → IsItem i × (slot_of_item i ≡ s))
    → option_and_then (item_of (key_of s)) (option_map body_of o) ≡ o
read_back s None is = refl
read_back s (Some i) is =
    let of : IsItem i × (slot_of_item i ≡ s) = is i refl in
    ap (λ t. item_of (key_of t) (body_of i)) (sym of.1) ∙ item_back i of.0

pub records_are_read : RecordsAreRead
records_are_read book s items =
    ap (λ o. option_and_then (item_of (key_of s)) (option_map body_of (option_and_then (told book) o))) (own_slot s)
    ∙ read_back s (told book s) (λ i at. (items i at, slots_tell_of_themselves book s i at))

pub restored_rows_stand : RestoredRowsStand
restored_rows_stand m old made book stands is items same order tells =
    rows_in_order_stand old made book stands is items order
    (λ s. tells s ∙ ap (λ (n : Map). read_in n s) same ∙ records_are_read book s (items s))
