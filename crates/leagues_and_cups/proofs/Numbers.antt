-- Ascending numbers: what a search among them finds, and one number more in its place.
use Rattle.std.proofs.Common.{◌≡◌, ◌≢◌, ◌∙◌, sym, ap, refl, subst, ℕ, zero, suc, ◌+◌, ◌<◌, ◌≤◌, Bool, true, false, List, [], ◌∷◌, ◌++◌, length, get_or, take, drop, Result, Ok, Err, arith, inl, inr, length-append}
use Rattle.std.specs.Prelude.{nat_lt, ◌==◌}
use Rattle.std.specs.List.{All, filter, insert, list_any}
use Rattle.std.specs.List.Sorted.{IsBinarySearchResult, IsNonDecreasingBy, IsPartitionedBy, IsPartitionPoint, IsSearchInRange}
use Rattle.std.specs.Ordering.{nat_cmp, ordering_index}
use Rattle.std.specs.Result.{is_ok}
use Rattle.std.proofs.lemmas.Bool.{cases_eq}
use Rattle.std.proofs.lemmas.Bool.Decides.{nat_tests}
use Rattle.std.proofs.lemmas.Cmp.{ranked}
use Rattle.std.proofs.lemmas.List.{append-nil, take-append-drop}
use Rattle.std.proofs.lemmas.List.Elements.{All-append, All-cons, All-head, All-tail, All-weaker, filter-append, filter_passes}
use Rattle.std.proofs.lemmas.List.Folds.{list_any_none}
use Rattle.std.proofs.lemmas.List.Kept.{AllPairs-cons, AllPairs-filter}
use Rattle.std.proofs.lemmas.List.Sorted.{IsPartitionedBy-ltb}
use Rattle.fpl_base.proofs.Around.{All-take_from, All-drop_from, AllPairs-head, AllPairs-middle, AllPairs-tail}
use Rattle.rule_book.specs.Ranks.{AllDiffer}
use Rattle.leagues_and_cups.specs.Books.{Rise, with_number}

-- a filter that all pass keeps all, and one that none passes keeps none
filter_all : (p : ℕ → Bool) (ns : List ℕ) → All (λ n. p n ≡ true) ns → filter p ns ≡ ns
filter_all p [] h = refl
filter_all p (n ∷ ns) h = rw (All-head (λ m. p m ≡ true) n ns h) (ap (λ r. n ∷ r) (filter_all p ns (All-tail (λ m. p m ≡ true) n ns h)))

filter_none : (p : ℕ → Bool) (ns : List ℕ) → All (λ n. p n ≡ false) ns → filter p ns ≡ []
filter_none p [] h = refl
filter_none p (n ∷ ns) h = rw (All-head (λ m. p m ≡ false) n ns h) (filter_none p ns (All-tail (λ m. p m ≡ false) n ns h))

-- a number goes between the smaller ones and the greater ones
pub with_between : (n : ℕ) (ls hs : List ℕ) → All (λ m. m < n) ls → All (λ m. n < m) hs → with_number n (ls ++ hs) ≡ ls ++ n ∷ hs
with_between n ls hs below above = rw (small, large) refl
  where
    small : filter (λ m. nat_lt m n) (ls ++ hs) ≡ ls
    small =
        let low = filter_all (λ m. nat_lt m n) ls (All-weaker (λ m. m < n) (λ m. nat_lt m n ≡ true) (λ m h. grind (arith, nat_tests)) ls below) in
        let none = filter_none (λ m. nat_lt m n) hs (All-weaker (λ m. n < m) (λ m. nat_lt m n ≡ false) (λ m h. grind (arith, nat_tests)) hs above) in
        filter-append (λ m. nat_lt m n) ls hs ∙ (rw (low, none) (append-nil ls))

    large : filter (λ m. nat_lt n m) (ls ++ hs) ≡ hs
    large =
        let none = filter_none (λ m. nat_lt n m) ls (All-weaker (λ m. m < n) (λ m. nat_lt n m ≡ false) (λ m h. grind (arith, nat_tests)) ls below) in
        let high = filter_all (λ m. nat_lt n m) hs (All-weaker (λ m. n < m) (λ m. nat_lt n m ≡ true) (λ m h. grind (arith, nat_tests)) hs above) in
        filter-append (λ m. nat_lt n m) ls hs ∙ (rw (none, high) refl)

-- a number that is greater than the first goes behind it
pub with_behind : (n m : ℕ) (ns : List ℕ) → m < n → with_number n (m ∷ ns) ≡ m ∷ with_number n ns
with_behind n m ns lt =
    let low : nat_lt m n ≡ true = grind (arith, nat_tests) in
    let high : nat_lt n m ≡ false = grind (arith, nat_tests) in
    rw (low, high) refl

-- numbers that rise differ
pub rising_differ : (ns : List ℕ) → Rise ns → AllDiffer ns
rising_differ ns rise i j d lt within same = omega (arith, rise i j d lt within)

module _ (ns : List ℕ) (rise : Rise ns) where
  -- and never fall
  never_falls : IsNonDecreasingBy (λ n. n) ns
  never_falls i j d le lt = elim (cases_eq i j) [
    | inl same ↦ omega (arith, ap (λ k. get_or ns k d) same)
    | inr other ↦ omega (arith, rise i j d (omega arith) lt)
  ]

  pub parted : (n : ℕ) → IsPartitionedBy (λ m. nat_lt m n) ns
  parted n = IsPartitionedBy-ltb (λ m. m) ns n never_falls

  comparisons_rise : (n : ℕ) → IsNonDecreasingBy (λ m. ordering_index (nat_cmp m n)) ns
  comparisons_rise n i j d le within = let up : get_or ns i d ≤ get_or ns j d = never_falls i j d le within in grind (arith, nat_tests)

  -- a binary search finds a number exactly where it is among them
  pub found : (n : ℕ) (r : Result ℕ ℕ) → IsSearchInRange r (length ns) → IsBinarySearchResult (λ m. nat_cmp m n) ns r → is_ok r ≡ list_any (λ m. m == n) ns
  found n (Ok at) within equal = sym (any_at ns at within (ranked _ n _ (sym (equal 0))))
    where
      any_at : (ms : List ℕ) (at : ℕ) → at < length ms → get_or ms at 0 ≡ n → list_any (λ m. m == n) ms ≡ true
      any_at [] at lt e = absurd (omega arith)
      any_at (m ∷ ms) zero lt e = grind (arith, nat_tests)
      any_at (m ∷ ms) (suc at) lt e = let more = any_at ms at (omega arith) e in grind (arith, nat_tests, more)
  found n (Err at) within places = sym (list_any_none (λ m. m == n) ns apart)
    where
      apart : All (λ m. (m == n) ≡ false) ns
      apart k d lt =
          let below : k < at → get_or ns k d < n = λ low. ranked _ n _ (sym ((places (comparisons_rise n)).0 k d (omega arith) low)) in
          let above : at ≤ k → n < get_or ns k d = λ high. ranked _ n _ (sym ((places (comparisons_rise n)).1 k d high lt)) in
          grind (arith, nat_tests, below, above)

-- a number that is not among them, at the place that parts the smaller ones from the others
module _ (ns : List ℕ) (n at : ℕ) (within : at ≤ length ns) (parts : IsPartitionPoint (λ m. nat_lt m n ≡ true) (λ m. nat_lt m n ≡ false) ns at) (new : All (λ m. m ≢ n) ns) where
  front : All (λ m. m < n) (take at ns)
  front = All-take_from (λ m. m < n) ns at within (λ k d lt. grind (arith, nat_tests, parts.0 k d))

  back : All (λ m. n < m) (drop at ns)
  back = All-drop_from (λ m. n < m) ns at (λ k d le lt. grind (arith, nat_tests, parts.1 k d, new k d))

  -- it stands there in the list with it
  pub put_in_place : insert ns at n ≡ with_number n ns
  put_in_place = sym (subst (λ l. with_number n l ≡ take at ns ++ n ∷ drop at ns) (take-append-drop at ns) (with_between n (take at ns) (drop at ns) front back))

  -- and they still rise
  pub still_rise : Rise ns → Rise (insert ns at n)
  still_rise rise = AllPairs-middle (λ a b. a < b) (take at ns) (drop at ns) n (subst Rise (sym (take-append-drop at ns)) rise) front back

-- numbers that rise still rise with one more in its place, whether it was among them or not
rise_joined : (n : ℕ) (ls hs : List ℕ) → Rise ls → All (λ m. m < n) ls → Rise hs → All (λ m. n < m) hs → Rise (ls ++ n ∷ hs)
rise_joined n [] hs low below high above = AllPairs-cons (λ a b. a < b) n hs above high
rise_joined n (l ∷ ls) hs low below high above =
    let first : l < n = All-head (λ m. m < n) l ls below in
    let behind : All (λ m. l < m) (n ∷ hs) = All-cons (λ m. l < m) n hs first (All-weaker (λ m. n < m) (λ m. l < m) (λ m h. omega arith) hs above) in
    AllPairs-cons (λ a b. a < b) l (ls ++ n ∷ hs)
    (All-append (λ m. l < m) ls (n ∷ hs) (AllPairs-head (λ a b. a < b) l ls low) behind)
    (rise_joined n ls hs (AllPairs-tail (λ a b. a < b) l ls low) (All-tail (λ m. m < n) l ls below) high above)

pub rise_with : (n : ℕ) (ns : List ℕ) → Rise ns → Rise (with_number n ns)
rise_with n ns rise =
    let low = filter (λ m. nat_lt m n) ns in
    let high = filter (λ m. nat_lt n m) ns in
    rise_joined n low high
    (AllPairs-filter (λ a b. a < b) (λ m. nat_lt m n) ns rise)
    (All-weaker (λ m. nat_lt m n ≡ true) (λ m. m < n) (λ m h. grind (arith, nat_tests)) low (filter_passes (λ m. nat_lt m n) ns))
    (AllPairs-filter (λ a b. a < b) (λ m. nat_lt n m) ns rise)
    (All-weaker (λ m. nat_lt n m ≡ true) (λ m. n < m) (λ m h. grind (arith, nat_tests)) high (filter_passes (λ m. nat_lt n m) ns))

-- and they are at least one, and at most one more
few_apart : (n : ℕ) (ns : List ℕ) → length (filter (λ m. nat_lt m n) ns) + length (filter (λ m. nat_lt n m) ns) ≤ length ns
few_apart n [] = omega arith
few_apart n (m ∷ ns) = let more = few_apart n ns in grind (arith, nat_tests, more)

pub some_with : (n : ℕ) (ns : List ℕ) → 1 ≤ length (with_number n ns)
some_with n ns = omega (arith, length-append (filter (λ m. nat_lt m n) ns) (n ∷ filter (λ m. nat_lt n m) ns))

pub few_with : (n : ℕ) (ns : List ℕ) → length (with_number n ns) ≤ length ns + 1
few_with n ns = omega (arith, few_apart n ns, length-append (filter (λ m. nat_lt m n) ns) (n ∷ filter (λ m. nat_lt n m) ns))
