-- The transfers of gameweeks with their numbers.
use Rattle.std.proofs.Common.{◌≡◌, ◌<◌, ◌≤◌, ◌+◌, ◌-◌, ℕ, zero, suc, false, cond, ◌&&◌, eqb, List, [], ◌∷◌, ◌++◌, Option, Some, None, refl, sym, ap, ap₂, ◌∙◌, subst, inl, inr, arith}
use Rattle.std.specs.Prelude.{slice_get}
use Rattle.std.proofs.lemmas.Bool.{and_left, and_right, cases_eq, eq-eqb, ne_eqb}
use Rattle.std.proofs.lemmas.List.{map-append}
use Rattle.rule_book.specs.declared.transfers.Sale.{Sale}
use Rattle.rule_book.specs.Entries.{entry_in}
use Rattle.manager_book.specs.Calls.{with_gameweek}
use Rattle.stored_records.specs.Sequels.{sales_from}
use Rattle.stored_records.proofs.Trading.{none_ahead, one_ahead}
use Rattle.stored_records.specs.Sequels.{and_then_those}
use Rattle.store_validation.specs.EntryLaws.{AllBehind, NumberedSale, SalesRise, sale_numbered, sales_of_rows}
use Rattle.store_validation.proofs.Numbered.{IsGapless, reached}
use Rattle.season_restoring.specs.Restoring.{through}
use Rattle.season_restoring.proofs.Through.{sales_next, sales_none, sales_of_gameweeks, through_next, through_none}

abbrev pub numbered : ℕ → ℕ → List Sale → List NumberedSale
numbered g i [] = []
numbered g i (s ∷ sales) = record { gw = g; number = i; sale = s } ∷ numbered g (i + 1) sales

abbrev pub numbered_sales : (ℕ → List Sale) → ℕ → ℕ → List NumberedSale
numbered_sales sales k g = through (λ w. numbered w 1 (sales w)) k g

next : (sales : ℕ → List Sale) (k g : ℕ) → numbered_sales sales (suc k) g ≡ numbered g 1 (sales g) ++ numbered_sales sales k (g + 1)
next sales k g = through_next (λ w. numbered w 1 (sales w)) k g

none : (sales : ℕ → List Sale) (g : ℕ) → numbered_sales sales zero g ≡ []
none sales g = through_none (λ w. numbered w 1 (sales w)) g

-- Without their numbers.

own_without : (g i : ℕ) (own : List Sale) → sales_of_rows (numbered g i own) ≡ with_gameweek g own
own_without g i [] = refl
own_without g i (s ∷ own) = ap (λ l. (g, s) ∷ l) (own_without g (i + 1) own)

pub without_numbers : (sales : ℕ → List Sale) (k g : ℕ) → sales_of_rows (numbered_sales sales k g) ≡ sales_of_gameweeks sales k g
without_numbers sales zero g = ap sales_of_rows (none sales g) ∙ sym (sales_none sales g)
without_numbers sales (suc k) g =
    ap sales_of_rows (next sales k g)
    ∙ map-append {B = ℕ × Sale} (λ (r : NumberedSale). (r.gw, r.sale)) (numbered g 1 (sales g)) (numbered_sales sales k (g + 1))
    ∙ ap₂ (λ a b. a ++ b) (own_without g 1 (sales g)) (without_numbers sales k (g + 1))
    ∙ sym (sales_next sales k g)

-- They rise.

behind_later : (sales : ℕ → List Sale) (x n k g : ℕ) → x < g → AllBehind x n (numbered_sales sales k g)
behind_later sales x n zero g less = subst (AllBehind x n) (sym (none sales g)) tt
behind_later sales x n (suc k) g less = subst (AllBehind x n) (sym (next sales k g)) (own 1 (sales g) (behind_later sales x n k (g + 1) (omega (arith, less))))
  where
    own : (i : ℕ) (s : List Sale) → AllBehind x n (numbered_sales sales k (g + 1)) → AllBehind x n (numbered g i s ++ numbered_sales sales k (g + 1))
    own i [] rest = rest
    own i (s ∷ more) rest = (inl less, own (i + 1) more rest)

pub numbers_rise : (sales : ℕ → List Sale) (k g : ℕ) → SalesRise (numbered_sales sales k g)
numbers_rise sales zero g = subst SalesRise (sym (none sales g)) tt
numbers_rise sales (suc k) g = subst SalesRise (sym (next sales k g)) (own 1 (sales g) (numbers_rise sales k (g + 1)))
  where
    behind : (n i : ℕ) (s : List Sale) → n < i → AllBehind g n (numbered g i s ++ numbered_sales sales k (g + 1))
    behind n i [] less = behind_later sales g n k (g + 1) (omega arith)
    behind n i (s ∷ more) less = (inr (refl, less), behind n (i + 1) more (omega (arith, less)))

    own : (i : ℕ) (s : List Sale) → SalesRise (numbered_sales sales k (g + 1)) → SalesRise (numbered g i s ++ numbered_sales sales k (g + 1))
    own i [] rest = rest
    own i (s ∷ more) rest = (behind i (i + 1) more (omega arith), own (i + 1) more rest)

-- They are found by number.

skip : (g i x n : ℕ) (s : Sale) (rows : List NumberedSale) → (eqb g x && eqb i n) ≡ false
    → sale_numbered (record { gw = g; number = i; sale = s } ∷ rows) x n ≡ sale_numbered rows x n
skip g i x n s rows e = ap (λ b. cond b (Some s) (sale_numbered rows x n)) e

skip_all : (g i x n : ℕ) (own : List Sale) (rows : List NumberedSale) → (g ≡ x → ⊥) → sale_numbered (numbered g i own ++ rows) x n ≡ sale_numbered rows x n
skip_all g i x n [] rows apart = refl
skip_all g i x n (s ∷ own) rows apart =
    skip g i x n s (numbered g (i + 1) own ++ rows) (and_left (eqb g x) (eqb i n) (ne_eqb g x apart)) ∙ skip_all g (i + 1) x n own rows apart

pub no_number_before : (sales : ℕ → List Sale) (x n k g : ℕ) → x < g → sale_numbered (numbered_sales sales k g) x n ≡ None
no_number_before sales x n zero g less = ap (λ l. sale_numbered l x n) (none sales g)
no_number_before sales x n (suc k) g less =
    ap (λ l. sale_numbered l x n) (next sales k g)
    ∙ skip_all g 1 x n (sales g) (numbered_sales sales k (g + 1)) (λ e. omega (arith, e, less))
    ∙ no_number_before sales x n k (g + 1) (omega (arith, less))

abbrev no_sales : List Sale
no_sales = []

nothing_at : (j : ℕ) → slice_get no_sales j ≡ None
nothing_at zero = refl
nothing_at (suc j) = refl

-- the entry behind so many
pub entry_at : {A : Type 0} (xs : List A) (i : ℕ) → entry_in xs (suc i) ≡ slice_get xs i
entry_at xs i = ap (λ b. cond b None (slice_get xs (suc i - 1))) (ne_eqb (suc i) 0 (λ e. omega (arith, e))) ∙ ap (slice_get xs) (omega arith)

found_here : (g i n : ℕ) (own : List Sale) (rows : List NumberedSale) → i ≤ n → sale_numbered rows g n ≡ None → sale_numbered (numbered g i own ++ rows) g n ≡ slice_get own (n - i)
found_here g i n [] rows low empty = empty ∙ sym (nothing_at (n - i))
found_here g i n (s ∷ own) rows low empty =
    elim (cases_eq i n) [
      | inl here ↦ ap (λ b. cond b (Some s) (sale_numbered (numbered g (i + 1) own ++ rows) g n)) (ap₂ (λ a b. a && b) (eq-eqb g g refl) (eq-eqb i n here))
          ∙ sym (ap (slice_get (s ∷ own)) (first here))
      | inr apart ↦ skip g i g n s (numbered g (i + 1) own ++ rows) (and_right (eqb g g) (eqb i n) (ne_eqb i n apart))
          ∙ found_here g (i + 1) n own rows (omega (arith, low, apart)) empty
          ∙ sym (ap (slice_get (s ∷ own)) (more apart))
    ]
  where
    first : i ≡ n → n - i ≡ zero
    first here = omega (arith, here)

    more : (i ≡ n → ⊥) → n - i ≡ suc (n - (i + 1))
    more apart = omega (arith, low, apart)

not_here : (g i n : ℕ) (own : List Sale) (rows : List NumberedSale) → n < i → sale_numbered rows g n ≡ None → sale_numbered (numbered g i own ++ rows) g n ≡ None
not_here g i n [] rows less empty = empty
not_here g i n (s ∷ own) rows less empty =
    skip g i g n s (numbered g (i + 1) own ++ rows) (and_right (eqb g g) (eqb i n) (ne_eqb i n (λ e. omega (arith, e, less))))
    ∙ not_here g (i + 1) n own rows (omega (arith, less)) empty

own_number : (g n : ℕ) (own : List Sale) (rows : List NumberedSale) → sale_numbered rows g n ≡ None → sale_numbered (numbered g 1 own ++ rows) g n ≡ entry_in own n
own_number g zero own rows empty = not_here g 1 zero own rows (omega arith) empty
own_number g (suc n) own rows empty = found_here g 1 (suc n) own rows (omega arith) empty ∙ ap (slice_get own) (omega arith) ∙ sym (entry_at own n)

pub number_found : (sales : ℕ → List Sale) (k g x n : ℕ) → g ≤ x → (g + k ≤ x → sales x ≡ []) → sale_numbered (numbered_sales sales k g) x n ≡ entry_in (sales x) n
number_found sales zero g x n low empty =
    ap (λ l. sale_numbered l x n) (none sales g) ∙ sym (ap (λ l. entry_in l n) (empty (omega (arith, low))) ∙ nobody n)
  where
    nobody : (n : ℕ) → entry_in no_sales n ≡ None
    nobody zero = refl
    nobody (suc n) = entry_at no_sales n ∙ nothing_at n
number_found sales (suc k) g x n low empty =
    ap (λ l. sale_numbered l x n) (next sales k g)
    ∙ elim (cases_eq g x) [
      | inl here ↦ subst (λ w. sale_numbered (numbered g 1 (sales g) ++ numbered_sales sales k (g + 1)) w n ≡ entry_in (sales w) n) here
          (own_number g n (sales g) (numbered_sales sales k (g + 1)) (no_number_before sales g n k (g + 1) (omega arith)))
      | inr apart ↦ skip_all g 1 x n (sales g) (numbered_sales sales k (g + 1)) apart
          ∙ number_found sales k (g + 1) x n (omega (arith, low, apart)) (λ le. empty (omega (arith, le)))
    ]

-- Those of a gameweek, by number.

some_not_none : {A : Type 0} (x : A) (o : Option A) → o ≡ Some x → o ≡ None → ⊥
some_not_none x o some none = absurd (cc)

-- where a number is not there, none behind it is
none_behind : (told : ℕ → Option Sale) → IsGapless told → (k j : ℕ) → 1 ≤ k → told k ≡ None → told (k + j) ≡ None
none_behind told gapless k j low empty = by (told (k + j)) refl
  where
    by : (o : Option Sale) → told (k + j) ≡ o → told (k + j) ≡ None
    by None is = is
    by (Some s) is = let there = reached told gapless j (k + j) k s low refl is in absurd (some_not_none there.0 (told k) there.1 empty)

none_above : (told : ℕ → Option Sale) → IsGapless told → (n : ℕ) → 1000 < n → told n ≡ None
none_above told gapless n many = by (told n) refl
  where
    by : (o : Option Sale) → told n ≡ o → told n ≡ None
    by None is = is
    by (Some s) is = let few : n ≤ 1000 = gapless.few n s is in absurd (omega (arith, few, many))

pub found_from : (told : ℕ → Option Sale) → IsGapless told → (fuel k j : ℕ) → 1 ≤ k → fuel + k ≡ 1001 → slice_get (sales_from told fuel k) j ≡ told (k + j)
found_from told gapless zero k j low sum =
    ap (λ l. slice_get l j) (none_ahead told k) ∙ nothing_at j ∙ sym (none_above told gapless (k + j) (omega (arith, sum)))
found_from told gapless (suc fuel) k j low sum = ap (λ l. slice_get l j) (one_ahead told fuel k) ∙ by (told k) refl j (λ i. found_from told gapless fuel (k + 1) i (omega arith) (omega (arith, sum)))
  where
    by : (o : Option Sale) → told k ≡ o → (j : ℕ) → ((i : ℕ) → slice_get (sales_from told fuel (k + 1)) i ≡ told (k + 1 + i))
        → slice_get (and_then_those o (sales_from told fuel (k + 1))) j ≡ told (k + j)
    by None is j rest = nothing_at j ∙ sym (none_behind told gapless k j low is)
    by (Some s) is zero rest = sym is ∙ ap told (omega arith)
    by (Some s) is (suc j) rest = rest j ∙ ap told (omega arith)

pub found_of : (told : ℕ → Option Sale) → IsGapless told → (n : ℕ) → entry_in (sales_from told 1000 1) n ≡ told n
found_of told gapless zero = by (told 0) refl
  where
    by : (o : Option Sale) → told 0 ≡ o → None ≡ told 0
    by None is = sym is
    by (Some s) is = absurd (elim (gapless.behind 0 s is) [ inl one ↦ absurd (omega (arith, one)) | inr more ↦ absurd (omega (arith, more.0)) ])
found_of told gapless (suc n) = entry_at (sales_from told 1000 1) n ∙ found_from told gapless 1000 1 n (omega arith) refl ∙ ap told (omega arith)
