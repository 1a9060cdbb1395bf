-- What is so of a record where all are lawful.
use Rattle.std.proofs.Common.{◌≡◌, ◌≤◌, ◌∙◌, ℕ, Bool, true, false, not, cond, List, Option, Some, None, find, refl, sym, ap, arith}
use Rattle.std.specs.Option.{is_some, option_map_or, option_or}
use Rattle.std.proofs.lemmas.Bool.{not-false, or_parts, true≢false}
use Rattle.std.proofs.lemmas.Bool.Decides.{nat_tests}
use Rattle.fpl_base.specs.Keeping.{map_of}
use Rattle.fpl_base.specs.declared.records.RecordKey.{RecordKey as Key}
use Rattle.record_fields.specs.Ranges.{is_id}
use Rattle.record_fields.specs.Reading.{◌>>=◌, kept}
use Rattle.season_records.proofs.KeyLaws.{named}
use Rattle.season_records.specs.ItemReading.{item_in, item_of}
use Rattle.season_records.specs.Items.{is_item}
use Rattle.season_records.specs.Keys.{key_of, slot_of}
use Rattle.season_records.specs.declared.item.Item.{Item}
use Rattle.season_records.specs.declared.slot.Slot.{Slot}
use Rattle.season_records.specs.declared.slot.Slot.TheVariants as slot
use Rattle.stored_records.specs.SeasonRules.{misses}
use Rattle.stored_records.specs.Stored.{Rows, is_there}
use Rattle.store_validation.proofs.EntriesJudged.{none_mapped, none_passes, some_is}
use Rattle.store_validation.specs.Lawful.{breaks, first_not_spelled, first_wrong, is_in_range, is_spelled, is_wrong, judged, rules_broken}

none_either : (o p : Option Key) → option_or o p ≡ None → (o ≡ None) × (p ≡ None)
none_either None p e = (refl, e)
none_either (Some k) p e = absurd (cc)

one_passes : {A : Type 0} (test : A → Bool) (o : Option A) → option_map_or test o false ≡ true → (x : A) × (o ≡ Some x) × (test x ≡ true)
one_passes test None e = absurd (cc)
one_passes test (Some x) e = (x, refl, e)

read_then : {A B : Type 0} (o : Option A) (f : A → Option B) (y : B) → (o >>= f) ≡ Some y → (x : A) × (o ≡ Some x) × (f x ≡ Some y)
read_then None f y e = absurd (cc)
read_then (Some x) f y e = (x, refl, e)

-- the record of a key is that of a slot, spelled as an item in range that breaks no rule
pub record LawfulRow (rows : Rows) (k : Key) (body : List ℕ) : Type 0 where
  pub tells : Item
  pub of_slot : Slot
  pub named : k ≡ key_of of_slot
  pub is : item_of k body ≡ Some tells
  pub read : item_in of_slot body ≡ Some tells
  pub ranged : is_in_range tells ≡ true
  pub unbroken : rules_broken rows tells ≡ false

pub lawful_row : (rows : Rows) → judged rows ≡ None → (k : Key) (body : List ℕ) → map_of rows k ≡ Some body → LawfulRow rows k body
lawful_row rows lawful k body there =
    let both = none_either (first_not_spelled rows) (first_wrong rows) lawful in
    let no_other : find (λ row. not (is_spelled row)) rows ≡ None = none_mapped (λ (row : Key × List ℕ). row.0) (find (λ row. not (is_spelled row)) rows) both.0 in
    let no_wrong : find (is_wrong rows) rows ≡ None = none_mapped (λ (row : Key × List ℕ). row.0) (find (is_wrong rows) rows) both.1 in
    let spelled : is_spelled (k, body) ≡ true = not-false _ (none_passes (λ row. not (is_spelled row)) rows no_other k body there) in
    let right : is_wrong rows (k, body) ≡ false = none_passes (is_wrong rows) rows no_wrong k body there in
    let one = one_passes is_in_range (item_of k body) spelled in
    let own = read_then (slot_of k) (λ s. item_in s body) one.0 one.1 in
    record {
      tells = one.0;
      of_slot = own.0;
      named = named k own.0 own.1;
      is = one.1;
      read = own.2;
      ranged = one.2;
      unbroken = (or_parts (misses (map_of rows) slot.Season) (rules_broken rows one.0) (sym (ap (λ o. option_map_or (breaks rows) o false) one.1) ∙ right)).1;
    }

-- What readers give.

pub of_reader : {A : Type 0} (f : A → Item) (o : Option A) (i : Item) → (o >>= λ a. kept is_item (f a)) ≡ Some i → (a : A) × (f a ≡ i) × (is_item i ≡ true)
of_reader f None i e = absurd (cc)
of_reader f (Some a) i e = of_test (is_item (f a)) refl e
  where
    of_test : (b : Bool) → is_item (f a) ≡ b → cond b (Some (f a)) None ≡ Some i → (a : _) × (f a ≡ i) × (is_item i ≡ true)
    of_test true can e = let same = some_is (f a) i e in (a, same, sym (ap is_item same) ∙ can)
    of_test false can e = absurd (cc)

pub if_true : (b : Bool) (o : Option Item) (i : Item) → cond b o None ≡ Some i → (b ≡ true) × (o ≡ Some i)
if_true true o i e = (refl, e)
if_true false o i e = absurd (cc)

pub some_there : {A : Type 0} (o : Option A) → is_some o ≡ true → (x : A) × (o ≡ Some x)
some_there None e = absurd (true≢false (sym e))
some_there (Some x) e = (x, refl)

-- Ids of what is there.

pub from_one : (n : ℕ) → is_id n ≡ true → 1 ≤ n
from_one n is = grind (arith, nat_tests, is)

module _ (rows : Rows) (lawful : judged rows ≡ None) (n : ℕ) where
  pub entry_from_one : is_there (map_of rows) (slot.Entry n) ≡ true → 1 ≤ n
  entry_from_one there =
      let body = some_there (map_of rows (key_of (slot.Entry n))) there in
      let row = lawful_row rows lawful (key_of (slot.Entry n)) body.0 body.1 in
      from_one n (if_true (is_id n) _ row.tells row.is).0

  pub league_from_one : is_there (map_of rows) (slot.League n) ≡ true → 1 ≤ n
  league_from_one there =
      let body = some_there (map_of rows (key_of (slot.League n))) there in
      let row = lawful_row rows lawful (key_of (slot.League n)) body.0 body.1 in
      from_one n (if_true (is_id n) _ row.tells row.is).0

  pub cup_from_one : is_there (map_of rows) (slot.Cup n) ≡ true → 1 ≤ n
  cup_from_one there =
      let body = some_there (map_of rows (key_of (slot.Cup n))) there in
      let row = lawful_row rows lawful (key_of (slot.Cup n)) body.0 body.1 in
      from_one n (if_true (is_id n) _ row.tells row.is).0
