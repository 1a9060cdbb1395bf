-- The transfers of a gameweek, as they are told and as events make them.
use Rattle.std.proofs.Common.{◌≡◌, ◌<◌, ◌≤◌, ◌+◌, ◌-◌, ℕ, zero, suc, Bool, true, false, cond, not, ◌&&◌, ◌||◌, List, [], ◌∷◌, ◌++◌, length, Option, Some, None, nat_eq, arith, refl, sym, ap, ◌∙◌}
use Rattle.std.specs.Prelude.{slice_get}
use Rattle.std.specs.List.{AllByRecursion as Each}
use Rattle.std.specs.Option.{option_and_then, option_map}
use Rattle.std.proofs.lemmas.Bool.Decides.{nat_tests}
use Rattle.fpl_base.specs.Keeping.{Map}
use Rattle.rule_book.specs.declared.transfers.Sale.{Sale}
use Rattle.rule_book.specs.Entries.{entry_in}
use Rattle.rule_book.specs.EntryCalls.{starts_in, transfer_limit}
use Rattle.rule_book.specs.EntryRecords.{earned_for, paid_for, sold_by, sold_in}
use Rattle.rule_book.specs.History.{Deed, Event, chip_at}
use Rattle.rule_book.specs.History.Deed.{First, Swap, Lineup, Play, Cancel}
use Rattle.rule_book.specs.HistoryRules.{GoesOn, is_first, is_started}
use Rattle.rule_book.specs.HistorySquad.{earned, spent}
use Rattle.rule_book.specs.HistoryTransfers.{is_swap, makes_free, swaps_in}
use Rattle.season_records.specs.declared.slot.Slot.TheVariants as slot
use Rattle.season_book.specs.Book.{Book, EntryFacts}
use Rattle.season_ledger.proofs.InOrder.{events_of}
use Rattle.season_records.specs.Records.{transfer_item}
use Rattle.season_records.specs.Records as records
use Rattle.stored_records.specs.EntryTold.{sale_in, sale_told}
use Rattle.stored_records.specs.Sequels.{all_numbers, and_those, every_sale_told, sales_under}
use Rattle.stored_records.specs.Stored.{told}
use Rattle.stored_records.proofs.Numbers.{nothing_under, one_under, since_later}
use Rattle.lawful_books.specs.TeamsTold.{Tells}
use Rattle.lawful_books.proofs.SameSquads.{sold}

-- the transfers under so many numbers, from one on, are those of a list that is no longer
from_list : (told : ℕ → Option Sale) (k n : ℕ) (sales : List Sale) → ((j : ℕ) → told (n + j) ≡ slice_get sales j) → length sales ≤ k → sales_under told k n ≡ sales
from_list told k n [] all few = nothing_under told k n (λ j le. ap told (omega (arith, le)) ∙ all (j - n))
from_list told zero n (s ∷ sales) all few = absurd (omega arith)
from_list told (suc k) n (s ∷ sales) all few =
    let some : told n ≡ Some s = ap told (omega arith) ∙ all 0 in
    let rest : (j : ℕ) → told (n + 1 + j) ≡ slice_get sales j = λ j. (ap told (let e : n + 1 + j ≡ n + suc j = omega arith in e) ∙ all (suc j)) in
    let more : sales_under told k (n + 1) ≡ sales = from_list told k (n + 1) sales rest (omega arith) in
    one_under told k n ∙ ap (λ o. and_those o (sales_under told k (n + 1))) some ∙ ap (λ r. s ∷ r) more

-- a gameweek has as many as its history counts
sold_count : (h : List Event) (g : ℕ) → length (sold_in h g) ≡ swaps_in h g
sold_count [] g = refl
sold_count (e ∷ h) g = by_deed e.deed (nat_eq e.gw g) (sold_count h g)
  where
    by_deed : (d : Deed) (b : Bool) → length (sold_in h g) ≡ swaps_in h g → length (cond b (sold_by d ++ sold_in h g) (sold_in h g)) ≡ cond (b && is_swap d) (suc (swaps_in h g)) (swaps_in h g)
    by_deed d false i = i
    by_deed (First squad captain vice) true i = i
    by_deed (Swap sale) true i = ap suc i
    by_deed (Lineup players captain vice) true i = i
    by_deed (Play chip) true i = i
    by_deed Cancel true i = i

limited : (b : Bool) (n : ℕ) → n ≤ cond b 1000 20 → n ≤ 1000
limited true n few = few
limited false n few = omega arith

module _ (m : Map) (book : Book) (tells : Tells m book) (e : ℕ) (entry : EntryFacts) (there : entry_in book.entries e ≡ Some entry) (g : ℕ) where
  sale_of : (n : ℕ) → sale_told m e g n ≡ entry_in (sold_in entry.history g) n
  sale_of n =
      ap sale_in (tells (slot.Transfer e g n) ∙ ap (option_and_then (λ (x : EntryFacts). records.transfer_told e g n x.history)) there)
      ∙ back (entry_in (sold_in entry.history g) n)
    where
      back : (o : Option Sale) → sale_in (option_map (transfer_item e g n) o) ≡ o
      back None = refl
      back (Some s) = refl

  sale_at : (j : ℕ) → sale_told m e g (1 + j) ≡ slice_get (sold_in entry.history g) j
  sale_at j =
      let some : nat_eq (1 + j) 0 ≡ false = grind (arith, nat_tests) in
      let place : (1 + j) - 1 ≡ j = omega arith in sale_of (1 + j) ∙ (rw (some, place) refl)

  none_before : (j : ℕ) → j < 1 → sale_told m e g j ≡ None
  none_before j less = ap (sale_told m e g) (let zero : j ≡ 0 = omega (arith, less) in zero) ∙ sale_of 0

  -- the transfers that are told are those of the history
  pub sales_as : swaps_in entry.history g ≤ transfer_limit (starts_in entry.history g) (chip_at entry.history g) → every_sale_told m e g ≡ sold_in entry.history g
  sales_as limit =
      let few : swaps_in entry.history g ≤ 1000
      = limited (starts_in entry.history g || makes_free (chip_at entry.history g)) (swaps_in entry.history g) limit in
      let count : length (sold_in entry.history g) ≡ swaps_in entry.history g = sold_count entry.history g in
      since_later (sale_told m e g) 0 1 (omega arith) (omega arith) (λ j low high. none_before j high)
      ∙ from_list (sale_told m e g) (all_numbers - 1) 1 (sold_in entry.history g) sale_at (omega (arith, few, count))

-- those of a gameweek are those of its events
pub sold_as : (h : List Event) (g : ℕ) → sold_in h g ≡ sold (events_of h g)
sold_as [] g = refl
sold_as (e ∷ h) g =
    let more : sold_in h g ≡ sold (events_of h g) = sold_as h g in
    elim (nat_eq e.gw g) as (λ b. cond b (sold_by e.deed ++ sold_in h g) (sold_in h g) ≡ sold (cond b (e ∷ events_of h g) (events_of h g))) [
      | true ↦ ap (λ sales. sold_by e.deed ++ sales) more
      | false ↦ more
    ]

-- behind the first event of a history none is First
pub none_first : (before es : List Event) → is_started before ≡ true → GoesOn before es → Each (λ (e : Event). is_first e.deed ≡ false) es
none_first before [] started goes = tt
none_first before (e ∷ es) started goes =
    (no_first (is_first e.deed) (sym started ∙ goes.0.3), none_first (before ++ e ∷ []) es (still before) goes.1)
  where
    no_first : (b : Bool) → true ≡ not b → b ≡ false
    no_first true t = cc
    no_first false t = refl

    still : (l : List Event) → is_started (l ++ e ∷ []) ≡ true
    still [] = refl
    still (x ∷ l) = refl

-- without First what is paid and earned is that of the transfers
pub spent_as : (es : List Event) → Each (λ (e : Event). is_first e.deed ≡ false) es → spent es ≡ paid_for (sold es)
spent_as [] none = refl
spent_as (e ∷ es) none = by e.deed none.0 (spent_as es none.1)
  where
    by : (d : Deed) → is_first d ≡ false → spent es ≡ paid_for (sold es) → spent (record { gw = e.gw; deed = d } ∷ es) ≡ paid_for (sold_by d ++ sold es)
    by (First squad captain vice) first more = cc
    by (Swap sale) first more = ap (λ n. sale.bought + n) more
    by (Lineup players captain vice) first more = omega arith
    by (Play chip) first more = omega arith
    by Cancel first more = omega arith

pub earned_as : (es : List Event) → Each (λ (e : Event). is_first e.deed ≡ false) es → earned es ≡ earned_for (sold es)
earned_as [] none = refl
earned_as (e ∷ es) none = by e.deed none.0 (earned_as es none.1)
  where
    by : (d : Deed) → is_first d ≡ false → earned es ≡ earned_for (sold es) → earned (record { gw = e.gw; deed = d } ∷ es) ≡ earned_for (sold_by d ++ sold es)
    by (First squad captain vice) first more = cc
    by (Swap sale) first more = ap (λ n. sale.sold + n) more
    by (Lineup players captain vice) first more = omega arith
    by (Play chip) first more = omega arith
    by Cancel first more = omega arith
