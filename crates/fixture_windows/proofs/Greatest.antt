-- Players sorted by how much each has stand as the window has them.
use Rattle.std.proofs.Common.{zero, suc, ℕ, ℤ, ◌≡◌, ◌∙◌, sym, refl, ap, subst, ◌<◌, ◌≤◌, ◌+◌, ◌≢◌, List, Bool, true, false, cond, length, map, get_or, arith, count_by, AllPairs, IsPermutation, IsSorted, int_lt}
use Rattle.std.specs.Cmp.{IsTotalOrder, IsStrictWeakOrder, unsigned_Decides}
use Rattle.std.specs.List.Sorted.{IsSortedBy, IsSortedByKey}
use Rattle.std.specs.Ordering.{flip_args, int_cmp, is_lt, nat_cmp, ordering_then}
use Rattle.std.specs.declared.cmp.Ordering.{Ordering}
use Rattle.std.specs.declared.cmp.Ordering.TheVariants.{Less, Equal, Greater}
use Rattle.std.proofs.lemmas.Cmp.{int_cmp_total, back_total}
use Rattle.std.proofs.lemmas.List.{get_or_default, get_or-map, length-map}
use Rattle.std.proofs.lemmas.List.Sorted.{ranks_by, sorted_far, IsPermutation-map}
use Rattle.std.proofs.lemmas.Map.Made.{IsDistinct-from_AllPairs}
use Rattle.rule_book.specs.Ranks.{by_rank, rank_among}
use Rattle.rule_book.proofs.OrderFacts.{only_order}
use Rattle.rule_book.proofs.RankLemmas.{count_prefix, rank_among-IsPermutation}
use Rattle.fixture_windows.specs.Appeared.{pair_of}
use Rattle.season_book.specs.FixturesWindow.{greatest_first, has_more}
use Rattle.fixture_windows.specs.declared.told.Told.{Told}
use Rattle.rule_book.proofs.OneAfterOther.{first_not_less, then_not_less, true_if, not_both, as_each, behind, beside}

-- by how much they have, the greatest first
abbrev by_value : ℕ × ℤ → ℕ × ℤ → Ordering
by_value a b = int_cmp b.1 a.1

abbrev better : ℕ × ℤ → ℕ × ℤ → Bool
better a b = is_lt (by_value a b)

-- and then by player
abbrev pub by_told : ℕ × ℤ → ℕ × ℤ → Ordering
by_told a b = ordering_then (by_value a b) (nat_cmp a.0 b.0)

values_total : IsTotalOrder (flip_args int_cmp)
values_total = back_total int_cmp_total

weak : IsStrictWeakOrder better
weak = ranks_by values_total (λ (row : ℕ × ℤ). row.1)

less_by : (b c : Bool) → is_lt (cond b Less (cond c Greater Equal)) ≡ b
less_by true c = refl
less_by false true = refl
less_by false false = refl

more_is : (a b : ℕ × ℤ) → has_more a b ≡ better a b
more_is a b = sym (less_by (int_lt b.1 a.1) (int_lt a.1 b.1))

abbrev rank_in : List (ℕ × ℤ) → ℕ × ℤ → ℕ
rank_in rows row = count_by (λ y. better y row) rows + 1

module _ (rows : List (ℕ × ℤ)) (sorted : IsSorted by_told rows) where
  by_values : IsSortedBy better rows
  by_values k d low lt = first_not_less _ _ (sorted k d low lt)

  -- no row is better than one before it
  far : (i j : ℕ) (d : ℕ × ℤ) → i ≤ j → j < length rows → better (get_or rows j d) (get_or rows i d) ≡ false
  far = sorted_far better weak rows by_values

  first : (d : ℕ × ℤ) → 0 < length rows → rank_in rows (get_or rows 0 d) ≡ 1
  first d some = ap (λ n. n + 1) (count_prefix (λ y. better y (get_or rows 0 d)) rows 0 (omega arith) (λ k e lt. absurd (omega arith)) later)
    where
      later : (k : ℕ) (e : ℕ × ℤ) → 0 ≤ k → k < length rows → better (get_or rows k e) (get_or rows 0 d) ≡ false
      later k e low lt = ap (λ x. better (get_or rows k e) x) (get_or_default rows 0 d e some) ∙ far 0 k e low lt

  -- a row that the one before it is better than has one more than the number of rows before it
  apart : (i j : ℕ) (d : ℕ × ℤ) → j ≡ i + 1 → j < length rows → better (get_or rows i d) (get_or rows j d) ≡ true → rank_in rows (get_or rows j d) ≡ j + 1
  apart i j d next within lead = ap (λ n. n + 1) (count_prefix (λ y. better y (get_or rows j d)) rows j (omega arith) earlier later)
    where
      earlier : (k : ℕ) (e : ℕ × ℤ) → k < j → better (get_or rows k e) (get_or rows j d) ≡ true
      earlier k e less =
          let same = get_or_default rows k e d (omega arith) in
          ap (λ x. better x (get_or rows j d)) same ∙ true_if _ (λ fails. not_both _ lead (weak.chain (get_or rows i d) (get_or rows k d) (get_or rows j d) (far k i d (omega arith) (omega arith)) fails))

      later : (k : ℕ) (e : ℕ × ℤ) → j ≤ k → k < length rows → better (get_or rows k e) (get_or rows j d) ≡ false
      later k e low lt = ap (λ x. better (get_or rows k e) x) (get_or_default rows j d e within) ∙ far j k e low lt

  -- a row that the one before it is not better than has its rank
  tied : (i j : ℕ) (d : ℕ × ℤ) → j ≡ i + 1 → j < length rows → better (get_or rows i d) (get_or rows j d) ≡ false → rank_in rows (get_or rows j d) ≡ rank_in rows (get_or rows i d)
  tied i j d next within level = λ t. count_by (λ y. alike y t) rows + 1
    where
      alike : (y : ℕ × ℤ) → better y (get_or rows j d) ≡ better y (get_or rows i d)
      alike y = as_each _ _ (λ e. weak.chain y (get_or rows j d) (get_or rows i d) e (far i j d (omega arith) within)) (λ e. weak.chain y (get_or rows i d) (get_or rows j d) e level)

  within_place_by : (i : ℕ) (d : ℕ × ℤ) (b : Bool) → better (get_or rows i d) (get_or rows (suc i) d) ≡ b → suc i < length rows → rank_in rows (get_or rows i d) ≤ i + 1 → rank_in rows (get_or rows (suc i) d) ≤ suc i + 1
  within_place_by i d true e lt low = omega (arith, apart i (suc i) d (omega arith) lt e)
  within_place_by i d false e lt low = omega (arith, tied i (suc i) d (omega arith) lt e, low)

  within_place : (i : ℕ) (d : ℕ × ℤ) → i < length rows → rank_in rows (get_or rows i d) ≤ i + 1
  within_place zero d lt = omega (arith, first d lt)
  within_place (suc i) d lt = within_place_by i d (better (get_or rows i d) (get_or rows (suc i) d)) refl lt (within_place i d (omega arith))

  -- a row and the next are in order by rank, then player
  steps : (i j : ℕ) (d : ℕ × ℤ) → j ≡ i + 1 → j < length rows → is_lt (by_rank (rank_in rows (get_or rows j d), (get_or rows j d).0) (rank_in rows (get_or rows i d), (get_or rows i d).0)) ≡ false
  steps i j d next within = by_lead (better (get_or rows i d) (get_or rows j d)) refl
    where
      by_player : better (get_or rows i d) (get_or rows j d) ≡ false → is_lt (nat_cmp (get_or rows j d).0 (get_or rows i d).0) ≡ false
      by_player e =
          let at : is_lt (by_told (get_or rows j d) (get_or rows i d)) ≡ false = ap (λ n. is_lt (by_told (get_or rows n d) (get_or rows i d))) next ∙ sorted i d (omega arith) (omega arith) in
          then_not_less _ _ at (ap is_lt (sym (values_total.antisymm (get_or rows i d).1 (get_or rows j d).1)) ∙ e)

      by_lead : (b : Bool) → better (get_or rows i d) (get_or rows j d) ≡ b → is_lt (by_rank (rank_in rows (get_or rows j d), (get_or rows j d).0) (rank_in rows (get_or rows i d), (get_or rows i d).0)) ≡ false
      by_lead true e =
          let less : rank_in rows (get_or rows i d) < rank_in rows (get_or rows j d) = omega (arith, apart i j d next within e, within_place i d (omega arith)) in
          behind (rank_in rows (get_or rows j d)) (rank_in rows (get_or rows i d)) (nat_cmp (get_or rows j d).0 (get_or rows i d).0) less
      by_lead false e = beside (rank_in rows (get_or rows j d)) (rank_in rows (get_or rows i d)) (nat_cmp (get_or rows j d).0 (get_or rows i d).0) (tied i j d next within e) (by_player e)

-- rows that are sorted are those that come greatest first
module _ (rows told : List (ℕ × ℤ)) (moved : IsPermutation rows told) (sorted : IsSorted by_told told) where
  same_rank : (x : ℕ × ℤ) → rank_among has_more rows x ≡ rank_in told x
  same_rank x = sym (rank_among-IsPermutation has_more rows told x moved) ∙ (λ t. count_by (λ y. more_is y x t) told + 1)

  in_ranks : IsSortedByKey (λ row. (rank_among has_more rows row, row.0)) by_rank told
  in_ranks k d low lt =
      (λ t. is_lt (by_rank (same_rank (get_or told (k + 1) d) t, (get_or told (k + 1) d).0) (same_rank (get_or told k d) t, (get_or told k d).0)))
      ∙ steps told sorted k (k + 1) d refl lt

  pub greatest_is : AllPairs (λ a b. a ≢ b) (map (λ (row : ℕ × ℤ). row.0) rows) → told ≡ greatest_first rows
  greatest_is differ =
      only_order (λ (row : ℕ × ℤ). (rank_among has_more rows row, row.0)) rows told (IsDistinct-from_AllPairs unsigned_Decides (map (λ (row : ℕ × ℤ). row.0) rows) differ) moved in_ranks

-- so it is with what stands for them
pub sorted_pairs : (told : List Told) → IsSorted (λ (a b : Told). ordering_then (int_cmp b.value.0 a.value.0) (nat_cmp a.player b.player)) told → IsSorted by_told (map pair_of told)
sorted_pairs told sorted k d low lt =
    let e : Told = record { value = record { 0 = d.1 }; player = d.0 } in
    let long = length-map told pair_of in
    let this = get_or-map pair_of told (k + 1) e d (omega (arith, lt, long)) in
    let last = get_or-map pair_of told k e d (omega (arith, lt, long)) in
    (λ t. is_lt (by_told (this t) (last t))) ∙ sorted k e low (omega (arith, lt, long))

pub sorted_told : (old told : List Told) (rows : List (ℕ × ℤ)) → map pair_of old ≡ rows → IsPermutation old told → IsSorted (λ (a b : Told). ordering_then (int_cmp b.value.0 a.value.0) (nat_cmp a.player b.player)) told
    → AllPairs (λ a b. a ≢ b) (map (λ (row : ℕ × ℤ). row.0) rows) → map pair_of told ≡ greatest_first rows
sorted_told old told rows is moved sorted differ =
    let pairs : IsPermutation rows (map pair_of told) = subst (λ l. IsPermutation l (map pair_of told)) is (IsPermutation-map pair_of old told moved) in
    greatest_is rows (map pair_of told) pairs (sorted_pairs told sorted) differ
