-- The ranks of rows that are in order, one after the other.
use Rattle.std.proofs.Common.{zero, suc, ℕ, ◌≡◌, ◌∙◌, sym, refl, ap, ◌<◌, ◌≤◌, ◌+◌, List, Bool, true, false, length, map, get_or, arith, count_by, IsSorted}
use Rattle.std.specs.Cmp.{IsTotalOrder, IsStrictWeakOrder}
use Rattle.std.specs.List.Sorted.{IsSortedByKey}
use Rattle.std.specs.Ordering.{is_lt, nat_cmp}
use Rattle.std.proofs.lemmas.Cmp.{int_cmp_total, nat_cmp_total, on_total, then_total, back_total}
use Rattle.std.proofs.lemmas.List.{get_or_default, get_or-map, length-map}
use Rattle.std.proofs.lemmas.List.Sorted.{ranks_by, sorted_far}
use Rattle.rule_book.specs.Ranks.{by_rank}
use Rattle.rule_book.specs.declared.tables.Ranked.{Ranked}
use Rattle.rule_book.proofs.RankLemmas.{count_prefix}
use Rattle.leagues_and_cups.specs.ClassicStanding.{by_standing, by_place, rank_placed, ranked_placed}
use Rattle.leagues_and_cups.specs.declared.classic_table.Placed.{Placed}
use Rattle.leagues_and_cups.specs.declared.classic_table.Standing.{Standing}
use Rattle.rule_book.proofs.OneAfterOther.{first_not_less, then_not_less, true_if, not_both, as_each, behind, beside}

standing_total : IsTotalOrder by_standing
standing_total = then_total (back_total (on_total (λ (s : Standing). s.total.0) int_cmp_total)) (on_total (λ (s : Standing). s.transfers) nat_cmp_total)

-- one row has a better standing than another
abbrev better : Placed → Placed → Bool
better a b = is_lt (by_standing a.standing b.standing)

weak : IsStrictWeakOrder better
weak = ranks_by standing_total (λ (row : Placed). row.standing)

module _ (rows : List Placed) (sorted : IsSorted by_place rows) where
  by_standings : IsSortedByKey (λ (row : Placed). row.standing) by_standing rows
  by_standings k d low lt = first_not_less _ _ (sorted k d low lt)

  -- no row is better than one before it
  far : (i j : ℕ) (d : Placed) → i ≤ j → j < length rows → better (get_or rows j d) (get_or rows i d) ≡ false
  far = sorted_far better weak rows by_standings

  -- the first row has rank one
  pub first : (d : Placed) → 0 < length rows → rank_placed rows (get_or rows 0 d) ≡ 1
  first d some = ap (λ n. n + 1) (count_prefix (λ y. better y (get_or rows 0 d)) rows 0 (omega arith) (λ k e lt. absurd (omega arith)) later)
    where
      later : (k : ℕ) (e : Placed) → 0 ≤ k → k < length rows → better (get_or rows k e) (get_or rows 0 d) ≡ false
      later k e low lt = ap (λ x. better (get_or rows k e) x) (get_or_default rows 0 d e some) ∙ far 0 k e low lt

  -- a row that the one before it is better than has one more than the number of rows before it
  pub apart : (i j : ℕ) (d : Placed) → j ≡ i + 1 → j < length rows → better (get_or rows i d) (get_or rows j d) ≡ true → rank_placed rows (get_or rows j d) ≡ j + 1
  apart i j d next within lead = ap (λ n. n + 1) (count_prefix (λ y. better y (get_or rows j d)) rows j (omega arith) earlier later)
    where
      earlier : (k : ℕ) (e : Placed) → k < j → better (get_or rows k e) (get_or rows j d) ≡ true
      earlier k e less =
          let same = get_or_default rows k e d (omega arith) in
          ap (λ x. better x (get_or rows j d)) same ∙ true_if _ (λ fails. not_both _ lead (weak.chain (get_or rows i d) (get_or rows k d) (get_or rows j d) (far k i d (omega arith) (omega arith)) fails))

      later : (k : ℕ) (e : Placed) → j ≤ k → k < length rows → better (get_or rows k e) (get_or rows j d) ≡ false
      later k e low lt = ap (λ x. better (get_or rows k e) x) (get_or_default rows j d e within) ∙ far j k e low lt

  -- a row that the one before it is not better than has its rank
  pub tied : (i j : ℕ) (d : Placed) → j ≡ i + 1 → j < length rows → better (get_or rows i d) (get_or rows j d) ≡ false → rank_placed rows (get_or rows j d) ≡ rank_placed rows (get_or rows i d)
  tied i j d next within level = λ t. count_by (λ y. alike y t) rows + 1
    where
      alike : (y : Placed) → better y (get_or rows j d) ≡ better y (get_or rows i d)
      alike y = as_each _ _ (λ e. weak.chain y (get_or rows j d) (get_or rows i d) e (far i j d (omega arith) within)) (λ e. weak.chain y (get_or rows i d) (get_or rows j d) e level)

  within_place_by : (i : ℕ) (d : Placed) (b : Bool) → better (get_or rows i d) (get_or rows (suc i) d) ≡ b → suc i < length rows → rank_placed rows (get_or rows i d) ≤ i + 1 → rank_placed rows (get_or rows (suc i) d) ≤ suc i + 1
  within_place_by i d true e lt low = omega (arith, apart i (suc i) d (omega arith) lt e)
  within_place_by i d false e lt low = omega (arith, tied i (suc i) d (omega arith) lt e, low)

  within_place : (i : ℕ) (d : Placed) → i < length rows → rank_placed rows (get_or rows i d) ≤ i + 1
  within_place zero d lt = omega (arith, first d lt)
  within_place (suc i) d lt = within_place_by i d (better (get_or rows i d) (get_or rows (suc i) d)) refl lt (within_place i d (omega arith))

  -- whether one row is better than another, as they are read
  pub as_read : (i j : ℕ) (x y d : Placed) → i < length rows → j < length rows → x ≡ get_or rows i x → y ≡ get_or rows j y → better (get_or rows i d) (get_or rows j d) ≡ better x y
  as_read i j x y d a b last this =
      ap (λ r. better r (get_or rows j d)) (get_or_default rows i d x a ∙ sym last) ∙ ap (λ r. better x r) (get_or_default rows j d y b ∙ sym this)

  -- a row and the next are in order by rank, then entry
  steps : (i j : ℕ) (d : Placed) → j ≡ i + 1 → j < length rows → is_lt (by_rank (rank_placed rows (get_or rows j d), (get_or rows j d).entry) (rank_placed rows (get_or rows i d), (get_or rows i d).entry)) ≡ false
  steps i j d next within = by_lead (better (get_or rows i d) (get_or rows j d)) refl
    where
      by_entry : better (get_or rows i d) (get_or rows j d) ≡ false → is_lt (nat_cmp (get_or rows j d).entry (get_or rows i d).entry) ≡ false
      by_entry e =
          let at : is_lt (by_place (get_or rows j d) (get_or rows i d)) ≡ false = ap (λ n. is_lt (by_place (get_or rows n d) (get_or rows i d))) next ∙ sorted i d (omega arith) (omega arith) in
          then_not_less _ _ at (ap is_lt (sym (standing_total.antisymm (get_or rows i d).standing (get_or rows j d).standing)) ∙ e)

      by_lead : (b : Bool) → better (get_or rows i d) (get_or rows j d) ≡ b → is_lt (by_rank (rank_placed rows (get_or rows j d), (get_or rows j d).entry) (rank_placed rows (get_or rows i d), (get_or rows i d).entry)) ≡ false
      by_lead true e =
          let less : rank_placed rows (get_or rows i d) < rank_placed rows (get_or rows j d) = omega (arith, apart i j d next within e, within_place i d (omega arith)) in
          behind (rank_placed rows (get_or rows j d)) (rank_placed rows (get_or rows i d)) (nat_cmp (get_or rows j d).entry (get_or rows i d).entry) less
      by_lead false e = beside (rank_placed rows (get_or rows j d)) (rank_placed rows (get_or rows i d)) (nat_cmp (get_or rows j d).entry (get_or rows i d).entry) (tied i j d next within e) (by_entry e)

  -- the ranked rows are in order by rank, then entry
  pub ranked_in_order : IsSortedByKey (λ (row : Ranked). (row.rank, row.entry)) by_rank (map (ranked_placed rows) rows)
  ranked_in_order k d low lt =
      let e : Placed = record { standing = record { total = record { 0 = d.total }; transfers = d.transfers }; entry = d.entry } in
      let long = length-map rows (ranked_placed rows) in
      let this = get_or-map (ranked_placed rows) rows (k + 1) e d (omega arith) in
      let last = get_or-map (ranked_placed rows) rows k e d (omega arith) in
      ap (λ (row : Ranked). is_lt (by_rank (row.rank, row.entry) ((get_or (map (ranked_placed rows) rows) k d).rank, (get_or (map (ranked_placed rows) rows) k d).entry))) this
      ∙ ap (λ (row : Ranked). is_lt (by_rank (rank_placed rows (get_or rows (k + 1) e), (get_or rows (k + 1) e).entry) (row.rank, row.entry))) last
      ∙ steps k (k + 1) e refl (omega arith)
