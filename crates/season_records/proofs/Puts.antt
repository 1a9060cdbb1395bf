-- A batch of what some slots tell leads to a map where the others told the same before.
use Rattle.std.proofs.Common.{◌≡◌, ◌||◌, Bool, true, false, cond, List, [], ◌∷◌, Option, Some, None, arith, refl, sym, ap, ◌∙◌}
use Rattle.std.specs.List.{list_any}
use Rattle.std.specs.Option.{option_map, option_and_then}
use Rattle.std.proofs.lemmas.Bool.Decides.{nat_tests}
use Rattle.fpl_base.specs.Keeping.{Map, applied, applied_one, is_same_key}
use Rattle.fpl_base.specs.declared.records.RecordKey.{RecordKey}
use Rattle.season_records.specs.Items.{body_of}
use Rattle.season_records.specs.Keys.{key_of, slot_of}
use Rattle.season_records.specs.declared.item.Item.{Item}
use Rattle.season_records.specs.declared.slot.Slot.{Slot}
use Rattle.season_records.proofs.KeyLaws.{named, own_slot}
use Rattle.season_records.specs.Records.{at_keys}
use Rattle.season_records.specs.Touched.{batch, op_of}

-- whether one of the slots has a key
abbrev pub touches : List Slot → RecordKey → Bool
touches slots k = list_any (λ s. is_same_key (key_of s) k) slots

same_parts : (k m : RecordKey) → k.kind ≡ m.kind → k.a ≡ m.a → k.b ≡ m.b → k.c ≡ m.c → k ≡ m
same_parts k m kind a b c i = record { kind = kind i; a = a i; b = b i; c = c i }

same_key : (m k : RecordKey) → is_same_key m k ≡ true → k ≡ m
same_key m k is =
    same_parts k m (grind (arith, nat_tests, is)) (grind (arith, nat_tests, is)) (grind (arith, nat_tests, is)) (grind (arith, nat_tests, is))

slot_at : (s : Slot) (k : RecordKey) → is_same_key (key_of s) k ≡ true → slot_of k ≡ Some s
slot_at s k is = ap slot_of (same_key (key_of s) k is) ∙ own_slot s

put_here : (old : Map) (s : Slot) (x : Option Item) (k : RecordKey) → is_same_key (key_of s) k ≡ true → applied_one old (op_of s x) k ≡ option_map body_of x
put_here old s None k is = ap (λ b. cond b None (old k)) is
put_here old s (Some item) k is = ap (λ b. cond b (Some (body_of item)) (old k)) is

put_other : (old : Map) (s : Slot) (x : Option Item) (k : RecordKey) → is_same_key (key_of s) k ≡ false → applied_one old (op_of s x) k ≡ old k
put_other old s None k is = ap (λ b. cond b None (old k)) is
put_other old s (Some item) k is = ap (λ b. cond b (Some (body_of item)) (old k)) is

puts_at : (old : Map) (told : Slot → Option Item) (slots : List Slot) (k : RecordKey)
    → (touches slots k ≡ false → old k ≡ at_keys told k) → applied old (batch told slots) k ≡ at_keys told k
puts_at old told [] k same = same refl
puts_at old told (s ∷ more) k same =
    puts_at (applied_one old (op_of s (told s))) told more k (λ apart.
    elim (is_same_key (key_of s) k) as (λ b. is_same_key (key_of s) k ≡ b → applied_one old (op_of s (told s)) k ≡ at_keys told k) [
      | true ↦ λ is. put_here old s (told s) k is ∙ sym (ap (λ o. option_map body_of (option_and_then told o)) (slot_at s k is))
      | false ↦ λ is. put_other old s (told s) k is ∙ same (ap (λ b. b || touches more k) is ∙ apart)
    ] refl)

-- so it is enough to look at the slots
pub puts : (old told : Slot → Option Item) (slots : List Slot)
    → ((s : Slot) → touches slots (key_of s) ≡ false → old s ≡ told s) → applied (at_keys old) (batch told slots) ≡ at_keys told
puts old told slots same = λ i k. puts_at (at_keys old) told slots k (λ apart. at k (slot_of k) refl apart) i
  where
    at : (k : RecordKey) (o : Option Slot) → slot_of k ≡ o → touches slots k ≡ false → option_map body_of (option_and_then old o) ≡ option_map body_of (option_and_then told o)
    at k None is apart = refl
    at k (Some s) is apart = ap (option_map body_of) (same s (ap (touches slots) (sym (named k s is)) ∙ apart))
