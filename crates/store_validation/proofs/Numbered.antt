-- Transfers listed by gameweek and number, and the same found by number from 1 on.
use Rattle.std.proofs.Common.{◌≡◌, ℕ, zero, suc, ◌+◌, ◌-◌, ◌<◌, ◌≤◌, true, false, cond, ◌&&◌, eqb, List, [], ◌∷◌, length, Option, Some, None, arith, refl, sym, ap, ap₂, ◌∙◌, subst, ◌⊎◌, inl, inr}
use Rattle.std.specs.List.{AllByRecursion as Each}
use Rattle.std.specs.Option.{is_some}
use Rattle.std.proofs.lemmas.Bool.{eqb-true, eq-eqb, ne_eqb, cases_order, cases_eq, cases_Bool, and_left, and_right, and_parts, true≢false}
use Rattle.rule_book.specs.declared.transfers.Sale.{Sale}
use Rattle.rule_book.specs.EntryRecords.{sales_in}
use Rattle.stored_records.specs.Sequels.{all_numbers, and_then_those, and_those, sales_from, sales_since}
use Rattle.stored_records.proofs.Numbers.{nothing_under, since_later, since_next}
use Rattle.stored_records.proofs.Trading.{none_ahead, one_ahead}
use Rattle.store_validation.specs.EntryLaws.{AllBehind, NumberedSale, SalesRise, sale_numbered, sales_of_rows}

-- A gameweek's transfers have the numbers 1, 2, 3 and so on, at most 1,000: each number but 1 stands behind another.
pub record IsGapless (told : ℕ → Option Sale) : Type 0 where
  pub behind : (n : ℕ) (s : Sale) → told n ≡ Some s → (n ≡ 1) ⊎ ((1 < n) × (is_some (told (n - 1)) ≡ true))
  pub few : (n : ℕ) (s : Sale) → told n ≡ Some s → n ≤ 1000

pub some_from : {A : Type 0} (o : Option A) → is_some o ≡ true → (x : A) × (o ≡ Some x)
some_from None e = absurd (true≢false (sym e))
some_from (Some x) e = (x, refl)

some_not_none : {A : Type 0} (x : A) (o : Option A) → o ≡ Some x → o ≡ None → ⊥
some_not_none x o some none = absurd (cc)

-- where a number is there, so are those from 1 up to it
pub reached : (told : ℕ → Option Sale) → IsGapless told → (j n k : ℕ) (s : Sale) → 1 ≤ k → k + j ≡ n → told n ≡ Some s → (x : Sale) × (told k ≡ Some x)
reached told gapless zero n k s low sum found = (s, subst (λ v. told v ≡ Some s) (sym (omega (arith, sum))) found)
reached told gapless (suc j) n k s low sum found =
    elim (gapless.behind n s found) [
      | inl one ↦ absurd (omega arith)
      | inr less ↦ (
          let before = some_from (told (n - 1)) less.1 in
          reached told gapless j (n - 1) k before.0 low (omega arith) before.1)
    ]

-- each of a list's transfers in a gameweek is of this number or a later one
abbrev FromNumber : ℕ → ℕ → List NumberedSale → Type 0
FromNumber g k rows = Each (λ r. r.gw ≡ g → k ≤ r.number) rows

behind_from : (g n : ℕ) (rows : List NumberedSale) → AllBehind g n rows → FromNumber g (n + 1) rows
behind_from g n [] behind = tt
behind_from g n (r ∷ rows) behind =
    (λ same. elim behind.0 [ inl later ↦ absurd (omega arith) | inr after ↦ omega (arith, after.1) ], behind_from g n rows behind.1)

skip_row : (r : NumberedSale) (rows : List NumberedSale) (g n : ℕ) → (eqb r.gw g && eqb r.number n) ≡ false → sale_numbered (r ∷ rows) g n ≡ sale_numbered rows g n
skip_row r rows g n e = ap (λ b. cond b (Some r.sale) (sale_numbered rows g n)) e

not_numbered : (g n k : ℕ) (rows : List NumberedSale) → n < k → FromNumber g k rows → sale_numbered rows g n ≡ None
not_numbered g n k [] less from = refl
not_numbered g n k (r ∷ rows) less from =
    elim (cases_eq r.gw g) [
      | inl same ↦ (
          let low = from.0 same in
          skip_row r rows g n (and_right (eqb r.gw g) (eqb r.number n) (ne_eqb r.number n (λ e. omega arith))) ∙ not_numbered g n k rows less from.1)
      | inr apart ↦ skip_row r rows g n (and_left (eqb r.gw g) (eqb r.number n) (ne_eqb r.gw g apart)) ∙ not_numbered g n k rows less from.1
    ]

take_row : (r : NumberedSale) (rows : List NumberedSale) → sale_numbered (r ∷ rows) r.gw r.number ≡ Some r.sale
take_row r rows =
    ap (λ b. cond b (Some r.sale) (sale_numbered rows r.gw r.number))
    (ap₂ (λ a b. a && b) (eq-eqb r.gw r.gw refl) (eq-eqb r.number r.number refl))

nothing_from : (told : ℕ → Option Sale) (fuel k : ℕ) → told k ≡ None → sales_from told fuel k ≡ []
nothing_from told zero k none = none_ahead told k
nothing_from told (suc fuel) k none = one_ahead told fuel k ∙ ap (λ o. and_then_those o (sales_from told fuel (k + 1))) none

taken_from : (told : ℕ → Option Sale) (fuel k : ℕ) (s : Sale) → told k ≡ Some s → sales_from told (suc fuel) k ≡ s ∷ sales_from told fuel (k + 1)
taken_from told fuel k s found = one_ahead told fuel k ∙ ap (λ o. and_then_those o (sales_from told fuel (k + 1))) found

numbered_here : (r : NumberedSale) (rows : List NumberedSale) (g : ℕ) → r.gw ≡ g → sale_numbered (r ∷ rows) g r.number ≡ Some r.sale
numbered_here r rows g here =
    ap (λ b. cond b (Some r.sale) (sale_numbered rows g r.number))
    (ap₂ (λ a b. a && b) (eq-eqb r.gw g here) (eq-eqb r.number r.number refl))

behind_here : (r : NumberedSale) (rows : List NumberedSale) (g : ℕ) → r.gw ≡ g → AllBehind r.gw r.number rows → FromNumber g (r.number + 1) rows
behind_here r rows g here behind = subst (λ h. FromNumber h (r.number + 1) rows) here (behind_from r.gw r.number rows behind)

other_number : (r : NumberedSale) (rows : List NumberedSale) (g n : ℕ) → (r.number ≡ n → ⊥) → sale_numbered (r ∷ rows) g n ≡ sale_numbered rows g n
other_number r rows g n apart = skip_row r rows g n (and_right (eqb r.gw g) (eqb r.number n) (ne_eqb r.number n apart))

-- the first of a gameweek's transfers has the number from which on they are there
first_number : (told : ℕ → Option Sale) → IsGapless told → (g : ℕ) (r : NumberedSale) (rows : List NumberedSale) (k : ℕ) → 1 ≤ k → k ≤ r.number → r.gw ≡ g
    → AllBehind r.gw r.number rows → ((n : ℕ) → k ≤ n → sale_numbered (r ∷ rows) g n ≡ told n) → r.number ≡ k
first_number told gapless g r rows k low from here behind same =
    elim (cases_order r.number k) [
      | inl equal ↦ equal
      | inr (inl less) ↦ absurd (omega arith)
      | inr (inr more) ↦ absurd (
          let found : told r.number ≡ Some r.sale = sym (same r.number from) ∙ numbered_here r rows g here in
          let there = reached told gapless (r.number - k) r.number k r.sale low (omega arith) found in
          let none : sale_numbered (r ∷ rows) g k ≡ None
          = other_number r rows g k (λ e. omega arith) ∙ not_numbered g k (r.number + 1) rows (omega arith) (behind_here r rows g here behind) in
          some_not_none there.0 (told k) there.1 (sym (same k (omega arith)) ∙ none))
    ]

sales_here : (r : NumberedSale) (rows : List NumberedSale) (g : ℕ) → r.gw ≡ g → sales_in (sales_of_rows (r ∷ rows)) g ≡ r.sale ∷ sales_in (sales_of_rows rows) g
sales_here r rows g here =
    ap (λ b. cond b (r.sale ∷ sales_in (sales_of_rows rows) g) (sales_in (sales_of_rows rows) g)) (eq-eqb r.gw g here)

sales_apart : (r : NumberedSale) (rows : List NumberedSale) (g : ℕ) → (r.gw ≡ g → ⊥) → sales_in (sales_of_rows (r ∷ rows)) g ≡ sales_in (sales_of_rows rows) g
sales_apart r rows g apart =
    ap (λ b. cond b (r.sale ∷ sales_in (sales_of_rows rows) g) (sales_in (sales_of_rows rows) g)) (ne_eqb r.gw g apart)

-- the gameweek's transfers of a list are those found from a number on
runs_on : (told : ℕ → Option Sale) → IsGapless told → (g : ℕ) (rows : List NumberedSale) (fuel k : ℕ) → 1 ≤ k → fuel + k ≡ 1001
    → SalesRise rows → FromNumber g k rows → ((n : ℕ) → k ≤ n → sale_numbered rows g n ≡ told n)
    → sales_in (sales_of_rows rows) g ≡ sales_from told fuel k
runs_on told gapless g [] fuel k low sum rise from same = sym (nothing_from told fuel k (sym (same k (omega arith))))
runs_on told gapless g (r ∷ rows) fuel k low sum rise from same =
    elim (cases_eq r.gw g) [
      | inl here ↦ (
          let first : r.number ≡ k = first_number told gapless g r rows k low (from.0 here) here rise.0 same in
          let found : told k ≡ Some r.sale = sym (same k (omega arith)) ∙ ap (sale_numbered (r ∷ rows) g) (sym first) ∙ numbered_here r rows g here in
          let few : k ≤ 1000 = gapless.few k r.sale found in
          let left : fuel ≡ suc (fuel - 1) = omega arith in
          let more : FromNumber g (k + 1) rows = subst (λ n. FromNumber g (n + 1) rows) first (behind_here r rows g here rise.0) in
          let rest = runs_on told gapless g rows (fuel - 1) (k + 1) (omega arith) (omega arith) rise.1 more
          (λ n up. sym (other_number r rows g n (λ e. omega arith)) ∙ same n (omega arith)) in
          sales_here r rows g here ∙ ap (λ more. r.sale ∷ more) rest ∙ sym (taken_from told (fuel - 1) k r.sale found)
          ∙ ap (λ f. sales_from told f k) (sym left))
      | inr apart ↦ (
          sales_apart r rows g apart
          ∙ runs_on told gapless g rows fuel k low sum rise.1 from.1
          (λ n up. sym (skip_row r rows g n (and_left (eqb r.gw g) (eqb r.number n) (ne_eqb r.gw g apart))) ∙ same n up))
    ]

-- each transfer of a list has a number from 1 on where each that is found does
abbrev pub HoldsOfFound : (ℕ → ℕ → Sale → Type 0) → List NumberedSale → Type 0
HoldsOfFound P rows = (g n : ℕ) (s : Sale) → sale_numbered rows g n ≡ Some s → P g n s

found_behind : (a b : ℕ) (rows : List NumberedSale) (g n : ℕ) (s : Sale) → AllBehind a b rows → sale_numbered rows g n ≡ Some s → (a < g) ⊎ ((a ≡ g) × (b < n))
found_behind a b [] g n s behind found = absurd (cc)
found_behind a b (r ∷ rows) g n s behind found =
    elim (cases_Bool (eqb r.gw g && eqb r.number n)) [
      | inl both ↦ (
          let parts = and_parts (eqb r.gw g) (eqb r.number n) both in
          let gw : r.gw ≡ g = eqb-true r.gw g parts.0 in
          let number : r.number ≡ n = eqb-true r.number n parts.1 in
          elim behind.0 [ inl later ↦ inl (omega arith) | inr after ↦ inr (omega (arith, after.0), omega (arith, after.1)) ])
      | inr fails ↦ found_behind a b rows g n s behind.1 (sym (skip_row r rows g n fails) ∙ found)
    ]

of_rest : (P : ℕ → ℕ → Sale → Type 0) (r : NumberedSale) (rows : List NumberedSale) → AllBehind r.gw r.number rows → HoldsOfFound P (r ∷ rows) → HoldsOfFound P rows
of_rest P r rows behind holds g n s found =
    elim (found_behind r.gw r.number rows g n s behind found) [
      | inl later ↦ holds g n s (skip_row r rows g n (and_left (eqb r.gw g) (eqb r.number n) (ne_eqb r.gw g (λ e. omega arith))) ∙ found)
      | inr after ↦ holds g n s (other_number r rows g n (λ e. omega (arith, after.1)) ∙ found)
    ]

-- what holds of each transfer that is found holds of each of the list
pub of_each : (P : ℕ → ℕ → Sale → Type 0) (rows : List NumberedSale) → SalesRise rows → HoldsOfFound P rows → Each (λ r. P r.gw r.number r.sale) rows
of_each P [] rise holds = tt
of_each P (r ∷ rows) rise holds =
    (holds r.gw r.number r.sale (take_row r rows), of_each P rows rise.1 (of_rest P r rows rise.0 holds))

from_one : (g : ℕ) (rows : List NumberedSale) → Each (λ r. 1 ≤ r.number) rows → FromNumber g 1 rows
from_one g [] each = tt
from_one g (r ∷ rows) each = (λ same. each.0, from_one g rows each.1)

-- the gameweek's transfers of a list are those found by number
pub sales_are : (told : ℕ → Option Sale) → IsGapless told → (g : ℕ) (rows : List NumberedSale) → SalesRise rows → Each (λ r. 1 ≤ r.number) rows
    → ((n : ℕ) → sale_numbered rows g n ≡ told n) → sales_in (sales_of_rows rows) g ≡ sales_from told 1000 1
sales_are told gapless g rows rise each same =
    runs_on told gapless g rows 1000 1 (omega arith) refl rise (from_one g rows each) (λ n up. same n)

none_before_one : (told : ℕ → Option Sale) → IsGapless told → (n : ℕ) → n < 1 → told n ≡ None
none_before_one told gapless n less = by (told n) refl
  where
    by : (o : Option Sale) → told n ≡ o → told n ≡ None
    by None none = none
    by (Some s) found = absurd (elim (gapless.behind n s found) [ inl one ↦ omega (arith, one, less) | inr more ↦ omega (arith, more.0, less) ])

none_past : (told : ℕ → Option Sale) → IsGapless told → (k n : ℕ) → 1 ≤ k → told k ≡ None → k ≤ n → told n ≡ None
none_past told gapless k n low none le = by (told n) refl
  where
    by : (o : Option Sale) → told n ≡ o → told n ≡ None
    by None none = none
    by (Some s) found =
        let there = reached told gapless (n - k) n k s low (omega (arith, le)) found in
        absurd (some_not_none there.0 (told k) there.1 none)

none_past_last : (told : ℕ → Option Sale) → IsGapless told → (n : ℕ) → 1000 < n → told n ≡ None
none_past_last told gapless n more = by (told n) refl
  where
    by : (o : Option Sale) → told n ≡ o → told n ≡ None
    by None none = none
    by (Some s) found = absurd (omega (arith, gapless.few n s found, more))

since_is : (told : ℕ → Option Sale) → IsGapless told → (fuel k : ℕ) → 1 ≤ k → fuel + k ≡ 1001 → sales_since told k ≡ sales_from told fuel k
since_is told gapless zero k low sum =
    nothing_under told (all_numbers - k) k (λ n le. none_past_last told gapless n (omega (arith, sum, le))) ∙ sym (none_ahead told k)
since_is told gapless (suc fuel) k low sum = by (told k) refl (λ less. since_is told gapless fuel (k + 1) (omega arith) (omega (arith, sum)))
  where
    by : (o : Option Sale) → told k ≡ o → (k < 1001 → sales_since told (k + 1) ≡ sales_from told fuel (k + 1)) → sales_since told k ≡ sales_from told (suc fuel) k
    by None none rest =
        nothing_under told (all_numbers - k) k (λ n le. none_past told gapless k n low none le) ∙ sym (nothing_from told (suc fuel) k none)
    by (Some s) found rest =
        since_next told k (omega (arith, sum)) ∙ ap (λ o. and_those o (sales_since told (k + 1))) found
        ∙ ap (λ more. s ∷ more) (rest (omega (arith, sum))) ∙ sym (taken_from told fuel k s found)

-- all transfers of a gameweek are those numbered from 1 on
pub every_is : (told : ℕ → Option Sale) → IsGapless told → sales_since told 0 ≡ sales_from told 1000 1
every_is told gapless =
    since_later told 0 1 (omega arith) (omega arith) (λ n low high. none_before_one told gapless n high) ∙ since_is told gapless 1000 1 (omega arith) refl

-- there are at most so many
pub few_from : (told : ℕ → Option Sale) (fuel k : ℕ) → length (sales_from told fuel k) ≤ fuel
few_from told zero k = omega (arith, ap length (none_ahead told k))
few_from told (suc fuel) k = few_then (told k) (ap length (one_ahead told fuel k)) (few_from told fuel (k + 1))
  where
    few_then : (o : Option Sale) → length (sales_from told (suc fuel) k) ≡ length (and_then_those o (sales_from told fuel (k + 1)))
        → length (sales_from told fuel (k + 1)) ≤ fuel → length (sales_from told (suc fuel) k) ≤ suc fuel
    few_then None e rest = omega (arith, e)
    few_then (Some s) e rest = omega (arith, e)

pub nothing_told : (told : ℕ → Option Sale) → told 1 ≡ None → sales_from told 1000 1 ≡ []
nothing_told told none = nothing_from told 1000 1 none
