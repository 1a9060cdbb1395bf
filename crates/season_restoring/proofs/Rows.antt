-- What the facts tell once records were taken one after the other.
use Rattle.std.proofs.Common.{◌≡◌, ◌<◌, ℕ, zero, suc, Bool, true, false, cond, List, [], ◌∷◌, length, get_or, Option, Some, None, arith, refl, sym, ap, subst, ◌∙◌}
use Rattle.std.specs.List.{AllByRecursion as Each}
use Rattle.std.specs.Option.{option_and_then, option_or}
use Rattle.std.proofs.lemmas.Bool.Decides.{nat_tests}
use Rattle.std.proofs.lemmas.Option.{same_Some}
use Rattle.fpl_base.specs.Keeping.{KeysRise, is_same_key, map_of, precedes}
use Rattle.fpl_base.specs.declared.records.RecordKey.{RecordKey}
use Rattle.season_book.specs.Book.{Facts}
use Rattle.season_records.specs.ItemReading.{item_of}
use Rattle.season_records.specs.Items.{key_of_item, slot_of_item}
use Rattle.season_records.specs.Keys.{key_of, slot_of}
use Rattle.season_records.specs.declared.item.Item.{Item}
use Rattle.season_records.specs.declared.item.Item.TheVariants as item
use Rattle.season_records.specs.declared.slot.Slot.{Slot}
use Rattle.season_records.specs.declared.slot.Slot.TheVariants as slot
use Rattle.season_records.proofs.KeyLaws.{own_slot}
use Rattle.stored_records.specs.Stored.{Rows, told}
use Rattle.season_records.specs.Records.{told_in}
use Rattle.season_restoring.specs.Restored.{with_item, with_row, with_rows, with_spelled}
use Rattle.season_restoring.proofs.Slots.{own_key}
use Rattle.season_restoring.proofs.Steps.{is_of_facts, keeps_others, keeps_season, tells_own}

abbrev pub Row : Type 0
Row = RecordKey × List ℕ

-- Keys.

same_parts : (k m : RecordKey) → k.kind ≡ m.kind → k.a ≡ m.a → k.b ≡ m.b → k.c ≡ m.c → k ≡ m
same_parts k m kind a b c i = record { kind = kind i; a = a i; b = b i; c = c i }

pub same_key : (k m : RecordKey) → is_same_key k m ≡ true → k ≡ m
same_key k m is =
    same_parts k m (grind (arith, nat_tests, is)) (grind (arith, nat_tests, is)) (grind (arith, nat_tests, is)) (grind (arith, nat_tests, is))

pub own_same : (k : RecordKey) → is_same_key k k ≡ true
own_same k = grind (arith, nat_tests)

-- a key before another is none of those from that on
pub later_apart : (k m : RecordKey) → precedes k m ≡ true → is_same_key m k ≡ false
later_apart k m before = grind (arith, nat_tests, before)

pub earlier_apart : (k m : RecordKey) → precedes k m ≡ true → is_same_key k m ≡ false
earlier_apart k m before = grind (arith, nat_tests, before)

-- Rows by rising keys.

abbrev pub Rise : Rows → Type 0
Rise [] = Unit {0}
Rise (row ∷ rows) = Each (λ r. precedes row.0 r.0 ≡ true) rows × Rise rows

pub rise_of : (rows : Rows) → KeysRise rows → Rise rows
rise_of [] up = tt
rise_of (row ∷ rows) up = (each_of row rows (λ k d lt. up zero (suc k) d (omega arith) (omega (arith, lt))), rise_of rows (λ i j d lt within. up (suc i) (suc j) d (omega (arith, lt)) (omega (arith, within))))
  where
    each_of : (row : Row) (rows : Rows) → ((k : ℕ) (d : Row) → k < length rows → precedes row.0 (get_or rows k d).0 ≡ true) → Each (λ r. precedes row.0 r.0 ≡ true) rows
    each_of row [] all = tt
    each_of row (r ∷ rows) all = (all zero r (omega arith), each_of row rows (λ k d lt. all (suc k) d (omega (arith, lt))))

-- no key before the first has a record
pub none_above : (k : RecordKey) (rows : Rows) → Each (λ r. precedes k r.0 ≡ true) rows → map_of rows k ≡ None
none_above k [] above = refl
none_above k (row ∷ rows) above = ap (λ b. cond b (Some row.1) (map_of rows k)) (later_apart k row.0 above.0) ∙ none_above k rows above.1

-- What is spelled.

pub record IsSpelled (row : Row) : Type 0 where
  pub told : Item
  pub is : item_of row.0 row.1 ≡ Some told

slot_where : (k : RecordKey) (i : Item) (s : Slot) → k ≡ key_of_item i → k ≡ key_of s → slot_of_item i ≡ s
slot_where k i s own other = same_Some (slot_of_item i) s (sym (own_slot (slot_of_item i)) ∙ ap slot_of (sym own ∙ other) ∙ own_slot s)

-- what is told once rows were taken: what they tell, else what was told before
pub told_after : (s : Slot) → is_of_facts s ≡ true → (rows : Rows) (facts : Facts) → Rise rows → Each IsSpelled rows
    → told_in (with_rows facts rows) s ≡ option_or (told (map_of rows) s) (told_in facts s)
told_after s of [] facts up spelled = refl
told_after s of (row ∷ rows) facts up spelled =
    told_after s of rows (with_row facts row) up.1 spelled.1
    ∙ (ap (λ facts. option_or (told (map_of rows) s) (told_in facts s)) (ap (with_spelled facts) spelled.0.is) ∙ by (is_same_key row.0 (key_of s)) refl)
  where
    i : Item
    i = spelled.0.told

    by : (b : Bool) → is_same_key row.0 (key_of s) ≡ b
        → option_or (told (map_of rows) s) (told_in (with_item facts i) s) ≡ option_or (told (map_of (row ∷ rows)) s) (told_in facts s)
    by true same =
        let key : row.0 ≡ key_of s = same_key row.0 (key_of s) same in
        let slot : slot_of_item i ≡ s = slot_where row.0 i s (own_key row.0 row.1 i spelled.0.is) key in
        let none : map_of rows (key_of s) ≡ None = ap (map_of rows) (sym key) ∙ none_above row.0 rows up.0 in
        let new : told_in (with_item facts i) s ≡ Some i = subst (λ s. told_in (with_item facts i) s ≡ Some i) slot (tells_own facts i (subst (λ s. is_of_facts s ≡ true) (sym slot) of)) in
        let own : item_of (key_of s) row.1 ≡ Some i = ap (λ k. item_of k row.1) (sym key) ∙ spelled.0.is in
        ap (λ o. option_or (option_and_then (item_of (key_of s)) o) (told_in (with_item facts i) s)) none
        ∙ (new ∙ sym (ap (λ b. option_or (option_and_then (item_of (key_of s)) (cond b (Some row.1) (map_of rows (key_of s)))) (told_in facts s)) same ∙ ap (λ o. option_or o (told_in facts s)) own))
    by false apart =
        let other : is_same_key (key_of_item i) (key_of s) ≡ false = ap (λ k. is_same_key k (key_of s)) (sym (own_key row.0 row.1 i spelled.0.is)) ∙ apart in
        ap (option_or (told (map_of rows) s)) (sym (keeps_others facts i s other))
        ∙ sym (ap (λ b. option_or (option_and_then (item_of (key_of s)) (cond b (Some row.1) (map_of rows (key_of s)))) (told_in facts s)) apart)

-- and the season stays
pub season_after : (rows : Rows) (facts : Facts) → Each IsSpelled rows → told_in (with_rows facts rows) slot.Season ≡ told_in facts slot.Season
season_after [] facts spelled = refl
season_after (row ∷ rows) facts spelled =
    season_after rows (with_row facts row) spelled.1
    ∙ (ap (λ facts. told_in facts slot.Season) (ap (with_spelled facts) spelled.0.is) ∙ keeps_season facts spelled.0.told)

-- a record of a later kind tells nothing of the facts
stays : (facts : Facts) (i : Item) → 5 < (key_of_item i).kind → facts ≡ with_item facts i
stays facts (item.Club c name) lt = absurd (omega (arith, lt))
stays facts (item.Player p position club price gone name) lt = absurd (omega (arith, lt))
stays facts (item.Fixture f home away g kickoff finished) lt = absurd (omega (arith, lt))
stays facts (item.Line f p line) lt = absurd (omega (arith, lt))
stays facts i lt = refl

pub others_stay : (facts : Facts) (row : Row) → 5 < row.0.kind → facts ≡ with_row facts row
others_stay facts row lt = by (item_of row.0 row.1) refl
  where
    by : (o : Option Item) → item_of row.0 row.1 ≡ o → facts ≡ with_spelled facts o
    by None is = refl
    by (Some i) is = stays facts i (subst (λ (k : RecordKey). 5 < k.kind) (own_key row.0 row.1 i is) lt)
