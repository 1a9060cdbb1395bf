-- Transfers that stand under numbers, whatever these are.
use Rattle.std.proofs.Common.{◌≡◌, ◌∙◌, ◌<◌, ◌≤◌, ◌+◌, ◌-◌, ℕ, zero, suc, true, false, List, [], get_or, length, Option, None, Some, arith, refl, sym, ap, ap₂, subst, inl, inr}
use Rattle.std.specs.List.{HoldsAt}
use Rattle.std.specs.Option.{option_and_then}
use Rattle.std.specs.Prelude.{IfSome}
use Rattle.std.proofs.lemmas.Bool.{cases_eq}
use Rattle.std.proofs.lemmas.Bool.Decides.{nat_tests}
use Rattle.std.proofs.lemmas.List.{get_or_default}
use Rattle.fpl_base.specs.declared.records.RecordKey.{RecordKey as Key}
use Rattle.fpl_base.specs.Keeping.{KeysRise, Map, is_same_key, map_of, precedes}
use Rattle.fpl_base.specs.Rows.{IsPlace}
use Rattle.rule_book.specs.declared.transfers.Sale.{Sale}
use Rattle.season_records.specs.ItemReading.{item_of}
use Rattle.season_records.specs.Keys.{key_of}
use Rattle.season_records.specs.declared.slot.Slot.TheVariants as slot
use Rattle.stored_records.specs.EntryTold.{sale_in, sale_told}
use Rattle.stored_records.specs.Sequels.{all_numbers, and_those, sales_since, sales_under}
use Rattle.stored_records.specs.Stored.{NoneUnder, Rows, is_sale_of}
use Rattle.stored_records.proofs.Found.{absent}
use Rattle.stored_records.proofs.Nearer.{not_before}

pub one_under : (told : ℕ → Option Sale) (k n : ℕ) → sales_under told (suc k) n ≡ and_those (told n) (sales_under told k (n + 1))
unfolding sales_under
one_under told k n = refl

pub none_under : (told : ℕ → Option Sale) (n : ℕ) → sales_under told zero n ≡ []
unfolding sales_under
none_under told n = refl

-- where none is told there is none
pub nothing_under : (told : ℕ → Option Sale) (k n : ℕ) → ((j : ℕ) → n ≤ j → told j ≡ None) → sales_under told k n ≡ []
nothing_under told zero n none = none_under told n
nothing_under told (suc k) n none =
    one_under told k n ∙ ap (λ o. and_those o (sales_under told k (n + 1))) (none n (omega arith))
    ∙ nothing_under told k (n + 1) (λ j le. none j (omega (arith, le)))

-- numbers under which none is told are passed over
passed : (told : ℕ → Option Sale) (d k n : ℕ) → ((j : ℕ) → n ≤ j → j < n + d → told j ≡ None) → sales_under told (d + k) n ≡ sales_under told k (n + d)
passed told zero k n none = ap₂ (sales_under told) (omega arith) (omega arith)
passed told (suc d) k n none =
    ap (λ f. sales_under told f n) (omega arith) ∙ one_under told (d + k) n
    ∙ ap (λ o. and_those o (sales_under told (d + k) (n + 1))) (none n (omega arith) (omega arith))
    ∙ passed told d k (n + 1) (λ j le lt. none j (omega (arith, le)) (omega (arith, lt)))
    ∙ ap (sales_under told k) (omega arith)

pub since_later : (told : ℕ → Option Sale) (n next : ℕ) → n ≤ next → next ≤ all_numbers → ((j : ℕ) → n ≤ j → j < next → told j ≡ None)
    → sales_since told n ≡ sales_since told next
since_later told n next le most none =
    ap (λ f. sales_under told f n) (omega (arith, le, most))
    ∙ passed told (next - n) (all_numbers - next) n (λ j low high. none j low (omega (arith, high, le)))
    ∙ ap (sales_under told (all_numbers - next)) (omega (arith, le))

pub since_next : (told : ℕ → Option Sale) (n : ℕ) → n < all_numbers → sales_since told n ≡ and_those (told n) (sales_since told (n + 1))
since_next told n less = ap (λ f. sales_under told f n) (omega (arith, less)) ∙ one_under told (all_numbers - (n + 1)) n

pub since_end : (told : ℕ → Option Sale) (n : ℕ) → all_numbers ≤ n → sales_since told n ≡ []
since_end told n past = ap (λ f. sales_under told f n) (omega (arith, past)) ∙ none_under told n

-- what a map has no record of it does not tell
pub untold : (m : Map) (e g n : ℕ) → m (key_of (slot.Transfer e g n)) ≡ None → sale_told m e g n ≡ None
untold m e g n none = ap (λ o. sale_in (option_and_then (item_of (key_of (slot.Transfer e g n))) o)) none

-- the transfer of this number stands at a place
abbrev pub FoundAt : ℕ → Option ℕ → Rows → ℕ → ℕ → Type 0
FoundAt at o rows e g = IfSome o (λ n. (at < length rows) × HoldsAt (λ row. (is_sale_of e g row.0 ≡ true) × (row.0.c ≡ n)) rows at)

-- and no such transfer
abbrev pub OtherAt : ℕ → Rows → ℕ → ℕ → Type 0
OtherAt at rows e g = at < length rows → HoldsAt (λ row. is_sale_of e g row.0 ≡ false) rows at

-- Where the first record stands that is not before a transfer's.

module _ (rows : Rows) (e g from at : ℕ) (rise : KeysRise rows) (place : IsPlace rows (key_of (slot.Transfer e g from)) at) where
  later : (x : Key) (n : ℕ) → from ≤ n → precedes x (key_of (slot.Transfer e g from)) ≡ true → precedes x (key_of (slot.Transfer e g n)) ≡ true
  later x n le less = grind (arith, nat_tests)

  -- where it is not before another transfer's, there is no such record
  none_at : (n : ℕ) → from ≤ n
      → (at < length rows → (d : Key × List ℕ) → (precedes (get_or rows at d).0 (key_of (slot.Transfer e g n)) ≡ false) × (is_same_key (get_or rows at d).0 (key_of (slot.Transfer e g n)) ≡ false))
      → map_of rows (key_of (slot.Transfer e g n)) ≡ None
  none_at n le other = absent rows (key_of (slot.Transfer e g n)) at rise here (λ lt d. (other lt d).1)
    where
      here : IsPlace rows (key_of (slot.Transfer e g n)) at
      here = record {
        bound = place.bound;
        before = λ k d low lt. later (get_or rows k d).0 n le (place.before k d low lt);
        behind = λ k d low lt. elim (cases_eq at k) [
          | inl same ↦ ap (λ i. precedes (get_or rows i d).0 (key_of (slot.Transfer e g n))) (sym same) ∙ (other (omega (arith, same, lt)) d).0
          | inr apart ↦
              not_before (get_or rows at d).0 (get_or rows k d).0 (key_of (slot.Transfer e g n)) (other (omega (arith, low, lt)) d).0
              (rise at k d (omega (arith, low, apart)) lt)
        ];
      }

  before_number : (x : Key) (next n : ℕ) → is_sale_of e g x ≡ true → x.c ≡ next → n < next
      → (precedes x (key_of (slot.Transfer e g n)) ≡ false) × (is_same_key x (key_of (slot.Transfer e g n)) ≡ false)
  before_number x next n of number less = (grind (arith, nat_tests), grind (arith, nat_tests))

  beside : (x : Key) (n : ℕ) → is_sale_of e g x ≡ false → precedes x (key_of (slot.Transfer e g from)) ≡ false → from ≤ n
      → (precedes x (key_of (slot.Transfer e g n)) ≡ false) × (is_same_key x (key_of (slot.Transfer e g n)) ≡ false)
  beside x n of behind le = (grind (arith, nat_tests), grind (arith, nat_tests))

  not_less : (x : Key) → is_sale_of e g x ≡ true → precedes x (key_of (slot.Transfer e g from)) ≡ false → from ≤ x.c
  not_less x of behind = grind (arith, nat_tests)

  -- a transfer of the same gameweek there has the next number
  next_is : (next : ℕ) (d : Key × List ℕ) → at < length rows → (is_sale_of e g (get_or rows at d).0 ≡ true) × ((get_or rows at d).0.c ≡ next)
      → (from ≤ next) × NoneUnder (map_of rows) e g from next
  next_is next d lt is = (
    omega (arith, not_less (get_or rows at d).0 is.0 (place.behind at d (omega arith) lt), is.1),
    λ n low high. none_at n low (λ there other.
        subst (λ row. (precedes row.0 (key_of (slot.Transfer e g n)) ≡ false) × (is_same_key row.0 (key_of (slot.Transfer e g n)) ≡ false))
        (get_or_default rows at d other lt) (before_number (get_or rows at d).0 next n is.0 is.1 high)),
  )

  -- and where something else stands there, there is none
  none_is : OtherAt at rows e g → (end : ℕ) → NoneUnder (map_of rows) e g from end
  none_is other end n low high =
      none_at n low (λ lt d. beside (get_or rows at d).0 n (other lt d) (place.behind at d (omega arith) lt) low)

  pub next_of : (o : Option ℕ) → FoundAt at o rows e g
      → IfSome o (λ n. (from ≤ n) × NoneUnder (map_of rows) e g from n)
  next_of None there = there
  next_of (Some n) there = let d : Key × List ℕ = (key_of (slot.Transfer e g n), []) in next_is n d there.0 (there.1 d)

  pub none_of : (o : Option ℕ) → (o ≡ None → OtherAt at rows e g) → o ≡ None → (end : ℕ) → NoneUnder (map_of rows) e g from end
  none_of o other none = none_is (other none)

-- of the numbers up to the next one none has a transfer
pub since_next_of : (m : Map) (e g from : ℕ) (o : Option ℕ) → IfSome o (λ n. n < all_numbers) → IfSome o (λ n. (from ≤ n) × NoneUnder m e g from n)
    → IfSome o (λ n. (from ≤ n) × (sales_since (sale_told m e g) from ≡ sales_since (sale_told m e g) n))
since_next_of m e g from None range next = next
since_next_of m e g from (Some n) range next =
    (next.0, since_later (sale_told m e g) from n next.0 (omega (arith, range)) (λ j low high. untold m e g j (next.1 j low high)))

-- where none has one there is no transfer left
pub since_none : (m : Map) (e g from : ℕ) → ((n : ℕ) → NoneUnder m e g from n) → sales_since (sale_told m e g) from ≡ []
since_none m e g from none =
    nothing_under (sale_told m e g) (all_numbers - from) from (λ j low. untold m e g j (none (j + 1) j low (omega arith)))
