-- Books with the same records tell the same of each slot.
use Rattle.std.proofs.Common.{◌≡◌, Bool, true, false, Option, Some, None, refl, sym, ap, subst, ◌∙◌, if◌then◌else◌}
use Rattle.std.specs.Option.{option_map, option_and_then}
use Rattle.std.proofs.lemmas.Option.{none-some, same_Some}
use Rattle.fpl_base.specs.Keeping.{Map}
use Rattle.season_book.specs.Book.{Book, EntryFacts, empty_book}
use Rattle.rule_book.specs.Entries.{entry_in}
use Rattle.rule_book.specs.EntryRecords.{sold_in}
use Rattle.rule_book.specs.History.{is_touched}
use Rattle.rule_book.specs.LeagueCalls.{is_member}
use Rattle.rule_book.specs.TeamOfHistory.{team_of}
use Rattle.season_records.specs.ItemReading.{item_of}
use Rattle.season_records.specs.Items.{body_of, key_of_item, slot_of_item}
use Rattle.season_records.specs.Keys.{key_of, slot_of}
use Rattle.season_records.specs.Ranges.{IsItem}
use Rattle.season_records.specs.declared.item.Item.{Item}
use Rattle.season_records.specs.declared.item.Item.TheVariants as item
use Rattle.season_records.specs.declared.slot.Slot.{Slot}
use Rattle.season_records.specs.declared.slot.Slot.TheVariants as slot
use Rattle.season_records.proofs.ItemLaws.{item_back}
use Rattle.season_records.proofs.KeyLaws.{own_slot}
use Rattle.season_records.specs.Records.{cup_item, entry_item, fixture_item, last_item, league_item, member_told, no_position, player_item, records, team_item, team_told, told, told_in, transfer_item, transfer_told}
use Rattle.season_records.proofs.Finds.{none_in}
use Rattle.season_records.specs.Told.{EmptyTellsNothing, RecordsTellSlots, SlotsTellOfThemselves, TellsItem}

-- What is told of a slot is an item of it.

abbrev OfSlot : Slot → Option Item → Type 0
OfSlot s None = Unit {0}
OfSlot s (Some i) = slot_of_item i ≡ s

mapped : {X : Type 0} (s : Slot) (f : X → Item) (o : Option X) → ((x : X) → slot_of_item (f x) ≡ s) → OfSlot s (option_map f o)
mapped s f None same = tt
mapped s f (Some x) same = same x

looked : {X : Type 0} (s : Slot) (f : X → Option Item) (o : Option X) → ((x : X) → OfSlot s (f x)) → OfSlot s (option_and_then f o)
looked s f None same = tt
looked s f (Some x) same = same x

where_true : (s : Slot) (b : Bool) (i : Item) → slot_of_item i ≡ s → OfSlot s (if b then Some i else None)
where_true s true i same = same
where_true s false i same = tt

of_slot : (book : Book) (s : Slot) → OfSlot s (told book s)
of_slot book slot.Season = looked slot.Season (λ facts. told_in facts slot.Season) book.facts (λ facts. refl)
of_slot book (slot.Club c) =
    looked (slot.Club c) (λ facts. told_in facts (slot.Club c)) book.facts (λ facts. mapped (slot.Club c) (item.Club c) _ (λ x. refl))
of_slot book (slot.Player p) =
    looked (slot.Player p) (λ facts. told_in facts (slot.Player p)) book.facts (λ facts. mapped (slot.Player p) (player_item p) _ (λ x. refl))
of_slot book (slot.Fixture f) =
    looked (slot.Fixture f) (λ facts. told_in facts (slot.Fixture f)) book.facts (λ facts. mapped (slot.Fixture f) (fixture_item f facts) _ (λ x. refl))
of_slot book (slot.Line f p) =
    looked (slot.Line f p) (λ facts. told_in facts (slot.Line f p)) book.facts (λ facts. mapped (slot.Line f p) (item.Line f p) _ (λ x. refl))
of_slot book (slot.Entry e) = mapped (slot.Entry e) (entry_item e) (entry_in book.entries e) (λ x. refl)
of_slot book (slot.Team e g) =
    looked (slot.Team e g) (λ (entry : EntryFacts). team_told e g entry.history) (entry_in book.entries e)
    (λ entry. where_true (slot.Team e g) (is_touched entry.history g) (team_item e g (team_of no_position entry.history g)) refl)
of_slot book (slot.Transfer e g n) =
    looked (slot.Transfer e g n) (λ (entry : EntryFacts). transfer_told e g n entry.history) (entry_in book.entries e)
    (λ entry. mapped (slot.Transfer e g n) (transfer_item e g n) (entry_in (sold_in entry.history g) n) (λ x. refl))
of_slot book (slot.League l) = mapped (slot.League l) (league_item l) (entry_in book.leagues l) (λ x. refl)
of_slot book (slot.Member l e) =
    looked (slot.Member l e) (member_told l e) (entry_in book.leagues l) (λ league. where_true (slot.Member l e) (is_member league e) (item.Member l e) refl)
of_slot book (slot.Cup c) = mapped (slot.Cup c) (cup_item c) (entry_in book.cups c) (λ x. refl)
of_slot book (slot.Last c) = mapped (slot.Last c) (last_item c) _ (λ x. refl)

pub slots_tell_of_themselves : SlotsTellOfThemselves
slots_tell_of_themselves book s i at = subst (OfSlot s) at (of_slot book s)

-- Of the empty book nothing.

pub nothing_told : (s : Slot) → told empty_book s ≡ None
nothing_told slot.Season = refl
nothing_told (slot.Club c) = refl
nothing_told (slot.Player p) = refl
nothing_told (slot.Fixture f) = refl
nothing_told (slot.Line f p) = refl
nothing_told (slot.Entry e) = ap (option_map (entry_item e)) (none_in e)
nothing_told (slot.Team e g) = ap (option_and_then (λ (entry : EntryFacts). team_told e g entry.history)) (none_in e)
nothing_told (slot.Transfer e g n) = ap (option_and_then (λ (entry : EntryFacts). transfer_told e g n entry.history)) (none_in e)
nothing_told (slot.League l) = ap (option_map (league_item l)) (none_in l)
nothing_told (slot.Member l e) = ap (option_and_then (member_told l e)) (none_in l)
nothing_told (slot.Cup c) = ap (option_map (cup_item c)) (none_in c)
nothing_told (slot.Last c) = refl

pub empty_tells_nothing : EmptyTellsNothing
empty_tells_nothing = λ i key. nothing_at (slot_of key) i
  where
    nothing_at : (o : Option Slot) → option_map body_of (option_and_then (told empty_book) o) ≡ None
    nothing_at None = refl
    nothing_at (Some s) = ap (option_map body_of) (nothing_told s)

-- Items of one slot with the same body are the same.

same_items : (i j : Item) → IsItem i → IsItem j → slot_of_item i ≡ slot_of_item j → body_of i ≡ body_of j → i ≡ j
same_items i j is also slot body =
    same_Some i j (sym (item_back i is) ∙ ap (λ s. item_of (key_of s) (body_of i)) slot ∙ ap (item_of (key_of_item j)) body ∙ item_back j also)

module _ (book other : Book) (s : Slot) (item : TellsItem book s) (also : TellsItem other s) where
  same_told : (x y : Option Item) → told book s ≡ x → told other s ≡ y → option_map body_of x ≡ option_map body_of y → x ≡ y
  same_told None None is are same = refl
  same_told None (Some j) is are same = absurd (none-some (body_of j) same)
  same_told (Some i) None is are same = absurd (none-some (body_of i) (sym same))
  same_told (Some i) (Some j) is are same =
      ap Some (same_items i j (item i is) (also j are) (slots_tell_of_themselves book s i is ∙ sym (slots_tell_of_themselves other s j are)) (same_Some (body_of i) (body_of j) same))

pub records_tell_slots : RecordsTellSlots
records_tell_slots book other s item also same =
    same_told book other s item also (told book s) (told other s) refl refl
    (sym (at_slot book) ∙ ap (λ (m : Map). m (key_of s)) same ∙ at_slot other)
  where
    at_slot : (book : Book) → records book (key_of s) ≡ option_map body_of (told book s)
    at_slot book = ap (λ o. option_map body_of (option_and_then (told book) o)) (own_slot s)
