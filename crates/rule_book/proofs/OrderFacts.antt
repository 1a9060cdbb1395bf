-- Rows in order of their places are the only ones that are in order.
use Rattle.std.proofs.Common.{zero, suc, ℕ, ◌≡◌, ◌∙◌, sym, refl, ap, ◌<◌, ◌≤◌, ◌+◌, List, [], ◌∷◌, Bool, true, false, length, map, get_or, arith, count_by, cond, IsPermutation, nat_eq, if◌then◌else◌}
use Rattle.std.specs.Prelude.{⊤}
use Rattle.std.specs.Cmp.{IsTotalOrder, IsStrictWeakOrder}
use Rattle.std.specs.List.{IsDistinct}
use Rattle.std.specs.List.Sorted.{IsSortedByKey}
use Rattle.std.specs.Ordering.{is_lt, nat_cmp, ordering_then, ordering_reverse}
use Rattle.std.specs.declared.cmp.Ordering.{Ordering}
use Rattle.std.specs.declared.cmp.Ordering.TheVariants.{Less, Equal, Greater}
use Rattle.std.proofs.lemmas.Bool.Decides.{nat_tests}
use Rattle.std.proofs.lemmas.Cmp.{nat_cmp_total, on_total, then_total, ranked}
use Rattle.std.proofs.lemmas.List.{ext_get_or, get_or_default, get_or-map, length-map}
use Rattle.std.proofs.lemmas.List.Elements.{Contains-get_or}
use Rattle.std.proofs.lemmas.List.Sorted.{ranks_by, sorted_far, IsPermutation-refl, IsPermutation-sym, IsPermutation-trans, IsPermutation-cons, IsPermutation-middle, IsPermutation-map, length_permutation, Contains-permutation, sum_by-IsPermutation}
use Rattle.std.proofs.lemmas.Map.Keys.{IsDistinct-IsPermutation, apart_from_distinct}
use Rattle.rule_book.specs.Ranks.{by_rank}
use Rattle.rule_book.specs.RowsInOrder.{put_in, in_order}
use Rattle.rule_book.proofs.RankLemmas.{count_prefix}

by_rank_total : IsTotalOrder by_rank
by_rank_total = then_total (on_total (λ (a : ℕ × ℕ). a.0) nat_cmp_total) (on_total (λ (a : ℕ × ℕ). a.1) nat_cmp_total)

equal_entries : (x y : ℕ) → nat_cmp x y ≡ Equal → x ≡ y
equal_entries x y e = let m = ranked x y Equal (sym e) in m

then_equal : (o p : Ordering) → ordering_then o p ≡ Equal → p ≡ Equal
then_equal Less p e = absurd (cc e)
then_equal Greater p e = absurd (cc e)
then_equal Equal p e = e

not_same : (x y : ℕ) → x ≡ y → nat_eq y x ≡ false → ⊥
not_same x y e apart = grind (arith, nat_tests)

flips : (x y : ℕ) → nat_eq x y ≡ nat_eq y x
flips x y = grind (arith, nat_tests)

module _ {X : Type 0} (place : X → ℕ × ℕ) where
  abbrev before : X → X → Bool
  before a b = is_lt (by_rank (place a) (place b))

  weak : IsStrictWeakOrder before
  weak = ranks_by by_rank_total place

  -- a row that is put in only moves
  put_moves_by : (row other : X) (rows : List X) (b : Bool) → IsPermutation (row ∷ rows) (put_in place row rows) → IsPermutation (row ∷ other ∷ rows) (if b then other ∷ put_in place row rows else row ∷ other ∷ rows)
  put_moves_by row other rows true p = IsPermutation-trans (row ∷ other ∷ rows) (other ∷ row ∷ rows) (other ∷ put_in place row rows) (IsPermutation-middle (row ∷ []) other rows) (IsPermutation-cons other (row ∷ rows) (put_in place row rows) p)
  put_moves_by row other rows false p = IsPermutation-refl (row ∷ other ∷ rows)

  put_moves : (row : X) (rows : List X) → IsPermutation (row ∷ rows) (put_in place row rows)
  put_moves row [] = IsPermutation-refl (row ∷ [])
  put_moves row (other ∷ rows) = put_moves_by row other rows (before other row) (put_moves row rows)

  pub in_order_moves : (rows : List X) → IsPermutation rows (in_order place rows)
  in_order_moves [] = IsPermutation-refl []
  in_order_moves (row ∷ rows) = IsPermutation-trans (row ∷ rows) (row ∷ in_order place rows) (put_in place row (in_order place rows)) (IsPermutation-cons row rows (in_order place rows) (in_order_moves rows)) (put_moves row (in_order place rows))

  -- no row stands before the one in front of it
  abbrev Leads : X → List X → Type 0
  Leads x [] = ⊤
  Leads x (y ∷ ys) = before y x ≡ false

  abbrev Rises : List X → Type 0
  Rises [] = ⊤
  Rises (x ∷ xs) = Leads x xs × Rises xs

  leads_by : (x row y : X) (ys : List X) (b : Bool) → before y x ≡ false → before row x ≡ false → Leads x (if b then y ∷ put_in place row ys else row ∷ y ∷ ys)
  leads_by x row y ys true one other = one
  leads_by x row y ys false one other = other

  leads_put : (x row : X) (rows : List X) → Leads x rows → before row x ≡ false → Leads x (put_in place row rows)
  leads_put x row [] leads one = one
  leads_put x row (y ∷ ys) leads one = leads_by x row y ys (before y row) leads one

  put_rises_by : (row other : X) (rows : List X) (b : Bool) → before other row ≡ b → Leads other rows → Rises rows → Rises (put_in place row rows) → Rises (if b then other ∷ put_in place row rows else row ∷ other ∷ rows)
  put_rises_by row other rows true e leads rises put = (leads_put other row rows leads (weak.one_way other row e), put)
  put_rises_by row other rows false e leads rises put = (e, (leads, rises))

  put_rises : (row : X) (rows : List X) → Rises rows → Rises (put_in place row rows)
  put_rises row [] rises = (tt, tt)
  put_rises row (other ∷ rows) rises = put_rises_by row other rows (before other row) refl rises.0 rises.1 (put_rises row rows rises.1)

  in_order_rises : (rows : List X) → Rises (in_order place rows)
  in_order_rises [] = tt
  in_order_rises (row ∷ rows) = put_rises row (in_order place rows) (in_order_rises rows)

  adjacent : (xs : List X) → Rises xs → (k : ℕ) (d : X) → k + 1 < length xs → before (get_or xs (k + 1) d) (get_or xs k d) ≡ false
  adjacent [] rises k d lt = absurd (omega arith)
  adjacent (x ∷ []) rises k d lt = absurd (omega arith)
  adjacent (x ∷ y ∷ ys) rises zero d lt = rises.0
  adjacent (x ∷ y ∷ ys) rises (suc k) d lt =
      let e : suc k + 1 ≡ suc (k + 1) = omega arith in
      rw e (adjacent (y ∷ ys) rises.1 k d (omega arith))

  pub in_order_sorted : (rows : List X) → IsSortedByKey place by_rank (in_order place rows)
  in_order_sorted rows k d low lt = adjacent (in_order place rows) (in_order_rises rows) k d lt

  abbrev entry : X → ℕ
  entry x = (place x).1

  -- one of two rows of different entries stands before the other
  one_first_by : (a b : X) (o : Ordering) → by_rank (place b) (place a) ≡ o → nat_eq (entry a) (entry b) ≡ false → is_lt o ≡ false → is_lt (ordering_reverse o) ≡ true
  one_first_by a b Less e apart late = absurd (cc late)
  one_first_by a b Greater e apart late = refl
  one_first_by a b Equal e apart late = absurd (not_same (entry b) (entry a) (equal_entries (entry b) (entry a) (then_equal (nat_cmp (place b).0 (place a).0) (nat_cmp (entry b) (entry a)) e)) apart)

  one_first : (a b : X) → before b a ≡ false → nat_eq (entry a) (entry b) ≡ false → before a b ≡ true
  one_first a b late apart = ap is_lt (by_rank_total.antisymm (place a) (place b)) ∙ one_first_by a b (by_rank (place b) (place a)) refl apart late

  entries_differ : (ys : List X) → IsDistinct nat_eq (map entry ys) → (k i : ℕ) (d : X) → k < i → i < length ys → nat_eq (entry (get_or ys k d)) (entry (get_or ys i d)) ≡ false
  entries_differ ys apart k i d less lt =
      let e : nat_eq (get_or (map entry ys) k 0) (get_or (map entry ys) i 0) ≡ false = apart_from_distinct nat_eq (map entry ys) k i 0 apart less (omega (arith, length-map ys entry)) in
      ap (λ n. nat_eq n (entry (get_or ys i d))) (sym (get_or-map entry ys k d 0 (omega arith))) ∙ ap (λ n. nat_eq (get_or (map entry ys) k 0) n) (sym (get_or-map entry ys i d 0 lt)) ∙ e

  -- of rows in order whose entries differ, so many stand before the one at a place
  counted : (ys : List X) → IsSortedByKey place by_rank ys → IsDistinct nat_eq (map entry ys) → (i : ℕ) (e : X) → i < length ys → count_by (λ y. before y (get_or ys i e)) ys ≡ i
  counted ys sorted apart i e lt = count_prefix (λ y. before y (get_or ys i e)) ys i (omega arith) earlier later
    where
      earlier : (k : ℕ) (d : X) → k < i → before (get_or ys k d) (get_or ys i e) ≡ true
      earlier k d less =
          ap (λ x. before (get_or ys k d) x) (get_or_default ys i e d lt)
          ∙ one_first (get_or ys k d) (get_or ys i d) (sorted_far before weak ys sorted k i d (omega arith) lt) (entries_differ ys apart k i d less lt)

      later : (k : ℕ) (d : X) → i ≤ k → k < length ys → before (get_or ys k d) (get_or ys i e) ≡ false
      later k d le within = ap (λ x. before (get_or ys k d) x) (get_or_default ys i e d lt) ∙ sorted_far before weak ys sorted i k d le within

  same_at : (ys zs : List X) → IsPermutation ys zs → IsSortedByKey place by_rank ys → IsSortedByKey place by_rank zs → IsDistinct nat_eq (map entry ys) → (d : X) (i : ℕ) → i < length ys → get_or ys i d ≡ get_or zs i d
  same_at ys zs same sy sz apart d i lt =
      let x = get_or ys i d in
      let (j, less, e) = Contains-permutation ys zs x same (Contains-get_or ys i d lt) in
      let moved = IsDistinct-IsPermutation nat_eq flips (map entry ys) (map entry zs) (IsPermutation-map entry ys zs same) apart in
      let here : count_by (λ y. before y x) ys ≡ i = counted ys sy apart i d lt in
      let there : count_by (λ y. before y x) zs ≡ j = ap (λ z. count_by (λ y. before y z) zs) (sym e) ∙ counted zs sz moved j x less in
      let counts : count_by (λ y. before y x) zs ≡ count_by (λ y. before y x) ys = sum_by-IsPermutation (λ y. cond (before y x) 1 0) ys zs same in
      let k : j ≡ i = sym there ∙ counts ∙ here in
      sym e ∙ ap (λ n. get_or zs n x) k ∙ get_or_default zs i x d (omega (arith, length_permutation ys zs same))

  -- two lists of the same rows, both in order, are the same
  one_order : (ys zs : List X) → IsPermutation ys zs → IsSortedByKey place by_rank ys → IsSortedByKey place by_rank zs → IsDistinct nat_eq (map entry ys) → ys ≡ zs
  one_order [] [] same sy sz apart = refl
  one_order [] (z ∷ zs) same sy sz apart = absurd (omega (arith, length_permutation [] (z ∷ zs) same))
  one_order (y ∷ ys) zs same sy sz apart = ext_get_or y (y ∷ ys) zs (sym (length_permutation (y ∷ ys) zs same)) (same_at (y ∷ ys) zs same sy sz apart y)

  -- the rows in order are the only ones
  pub only_order : (rows table : List X) → IsDistinct nat_eq (map entry rows) → IsPermutation rows table → IsSortedByKey place by_rank table → table ≡ in_order place rows
  only_order rows table apart moved sorted =
      let back = IsPermutation-sym rows table moved in
      one_order table (in_order place rows) (IsPermutation-trans table rows (in_order place rows) back (in_order_moves rows)) sorted (in_order_sorted rows)
      (IsDistinct-IsPermutation nat_eq flips (map entry rows) (map entry table) (IsPermutation-map entry rows table moved) apart)
