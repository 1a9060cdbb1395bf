-- What is found among records in the order of their keys, and how many stand between two.
use Rattle.std.proofs.Common.{◌≡◌, ◌<◌, ◌≤◌, ◌+◌, ◌-◌, ℕ, zero, suc, Bool, true, false, not, ◌&&◌, List, [], ◌∷◌, length, get_or, take, drop, filter, min, nat_le, nat_lt, Some, None, IsTrue, refl, sym, ap, ◌∙◌, subst, inl, inr, arith, add-one}
use Rattle.std.specs.List.{HoldsAt, count_by}
use Rattle.std.specs.List.Sorted.{IsPartitionPoint}
use Rattle.std.proofs.Math.Seq.{drop-nil, take-nil}
use Rattle.std.proofs.lemmas.Bool.{cases_eq}
use Rattle.std.proofs.lemmas.Bool.Decides.{nat_tests}
use Rattle.std.proofs.lemmas.List.Sums.{count_by_more_yes, count_by_more_no}
use Rattle.std.proofs.lemmas.List.{take_all}
use Rattle.fpl_base.specs.declared.records.RecordKey.{RecordKey as Key}
use Rattle.fpl_base.specs.Keeping.{precedes, is_same_key, map_of, KeysRise}
use Rattle.fpl_base.specs.Rows.{IsPlace}
use Rattle.fpl_base.proofs.Around.{AllPairs-tail}
use Rattle.fpl_base.proofs.KeyLemmas.{precedes_not_back, precedes_not_same, precedes_or, precedes_trans, same_key_self}
use Rattle.stored_records.specs.Stored.{Rows, is_within, between}

-- the record at a place is the one of its key
pub found_at : (rows : Rows) (at : ℕ) (d : Key × List ℕ) → KeysRise rows → at < length rows → map_of rows (get_or rows at d).0 ≡ Some (get_or rows at d).1
found_at [] at d rise lt = absurd (omega (arith, lt))
found_at (row ∷ rows) zero d rise lt = rw (same_key_self row.0) refl
found_at (row ∷ rows) (suc at) d rise lt =
    let before : precedes row.0 (get_or rows at d).0 ≡ true = rise 0 (suc at) d (omega arith) lt in
    rw (precedes_not_back row.0 (get_or rows at d).0 before) (found_at rows at d (AllPairs-tail (λ x y. IsTrue (precedes x.0 y.0)) row rows rise) (omega (arith, lt)))

-- where no record has a key, there is none
pub not_found : (rows : Rows) (key : Key) → ((k : ℕ) (d : Key × List ℕ) → k < length rows → is_same_key (get_or rows k d).0 key ≡ false) → map_of rows key ≡ None
not_found [] key away = refl
not_found (row ∷ rows) key away =
    rw (away 0 (key, []) (omega arith)) (not_found rows key (λ k d lt. away (suc k) d (omega (arith, lt))))

module _ (rows : Rows) (key : Key) (at : ℕ) (rise : KeysRise rows) (place : IsPlace rows key at) where
  -- behind the place all keys are greater, if the one at the place is another
  greater : (at < length rows → HoldsAt (λ row. is_same_key row.0 key ≡ false) rows at) → (k : ℕ) (d : Key × List ℕ) → at ≤ k → k < length rows → precedes key (get_or rows k d).0 ≡ true
  greater away k d le lt = elim (cases_eq k at) [
    | inl same ↦
        let here : is_same_key (get_or rows k d).0 key ≡ false = subst (λ i. is_same_key (get_or rows i d).0 key ≡ false) (sym same) (away (omega (arith, same, lt)) d) in
        precedes_or (get_or rows k d).0 key (place.behind k d le lt) here
    | inr other ↦
        let here = precedes_or (get_or rows at d).0 key (place.behind at d (omega arith) (omega (arith, le, lt))) (away (omega (arith, le, lt)) d) in
        precedes_trans key (get_or rows at d).0 (get_or rows k d).0 here (rise at k d (omega (arith, le, other)) lt)
  ]

  pub absent : (at < length rows → HoldsAt (λ row. is_same_key row.0 key ≡ false) rows at) → map_of rows key ≡ None
  absent away = not_found rows key (λ k d lt. by k d lt (nat_lt k at) refl)
    where
      by : (k : ℕ) (d : Key × List ℕ) → k < length rows → (b : Bool) → nat_lt k at ≡ b → is_same_key (get_or rows k d).0 key ≡ false
      by k d lt true less = precedes_not_back (get_or rows k d).0 key (place.before k d (omega arith) (grind (arith, nat_tests, less)))
      by k d lt false more = precedes_not_same (get_or rows k d).0 key (greater away k d (grind (arith, nat_tests, more)) lt)

counted_more : {X : Type 0} (p : X → Bool) (xs : List X) (d : X) (a b n : ℕ) → ((k : ℕ) → k < length xs → p (get_or xs k d) ≡ (nat_le a k && nat_lt k b)) → n < length xs → count_by p (take n xs) ≡ min n b - a → count_by p (take (n + 1) xs) ≡ min (n + 1) b - a
counted_more p xs d a b n at less so_far = by (nat_le a n && nat_lt n b) refl
  where
    by : (c : Bool) → (nat_le a n && nat_lt n b) ≡ c → count_by p (take (n + 1) xs) ≡ min (n + 1) b - a
    by true holds = count_by_more_yes p xs n d less (at n less ∙ holds) ∙ (ap (λ m. m + 1) so_far ∙ grind (arith, nat_tests, holds))
    by false fails = count_by_more_no p xs n d less (at n less ∙ fails) ∙ (so_far ∙ grind (arith, nat_tests, fails))

-- of the first n, those count that stand at places from a on and before b
counted : {X : Type 0} (p : X → Bool) (xs : List X) (d : X) (a b n : ℕ) → ((k : ℕ) → k < length xs → p (get_or xs k d) ≡ (nat_le a k && nat_lt k b)) → n ≤ length xs → count_by p (take n xs) ≡ min n b - a
counted p xs d a b zero at le = grind arith
counted p xs d a b (suc n) at le = rw (← add-one n) (counted_more p xs d a b n at (omega (arith, le)) (counted p xs d a b n at (omega (arith, le))))

pub between_places : (rows : Rows) (low high : Key) (a b : ℕ) → IsPlace rows low a → IsPlace rows high b → b - a ≡ between rows low high
between_places rows low high a b p q =
    let test : Key × List ℕ → Bool = λ row. is_within low high row.0 in
    let d : Key × List ℕ = (low, []) in
    sym (ap (count_by test) (sym (take_all (length rows) rows (omega arith))) ∙ (counted test rows d a b (length rows) within (omega arith) ∙ omega (arith, q.bound)))
  where
    within : (k : ℕ) → k < length rows → is_within low high (get_or rows k (low, [])).0 ≡ (nat_le a k && nat_lt k b)
    within k lt = by (nat_le a k) (nat_lt k b) refl refl
      where
        d : Key × List ℕ
        d = (low, [])

        by : (s t : Bool) → nat_le a k ≡ s → nat_lt k b ≡ t → is_within low high (get_or rows k d).0 ≡ (nat_le a k && nat_lt k b)
        by true true e f = rw (p.behind k d (grind (arith, nat_tests, e)) lt, q.before k d (omega arith) (grind (arith, nat_tests, f)), e, f) refl
        by true false e f = rw (p.behind k d (grind (arith, nat_tests, e)) lt, q.behind k d (grind (arith, nat_tests, f)) lt, e, f) refl
        by false t e f = rw (p.before k d (omega arith) (grind (arith, nat_tests, e)), e) refl

-- what a filter keeps that keeps the places from a on and before b
pub kept_part : {X : Type 0} (p : X → Bool) (xs : List X) (a b : ℕ) → ((k : ℕ) (d : X) → k < length xs → p (get_or xs k d) ≡ (nat_le a k && nat_lt k b)) → take (b - a) (drop a xs) ≡ filter p xs
kept_part p [] a b at = rw (drop-nil a) (take-nil (b - a))
kept_part p (x ∷ xs) (suc a) b at =
    let first : p x ≡ false = at 0 x (omega arith) ∙ grind (arith, nat_tests) in
    let rest = kept_part p xs a (b - 1) (λ k d lt. at (suc k) d (omega (arith, lt)) ∙ grind (arith, nat_tests)) in
    rw (first, ← rest) (ap (λ n. take n (drop a xs)) (omega arith))
kept_part p (x ∷ xs) zero zero at =
    let first : p x ≡ false = at 0 x (omega arith) ∙ grind (arith, nat_tests) in
    rw first (kept_part p xs 0 0 (λ k d lt. at (suc k) d (omega (arith, lt)) ∙ grind (arith, nat_tests)))
kept_part p (x ∷ xs) zero (suc b) at =
    let first : p x ≡ true = at 0 x (omega arith) ∙ grind (arith, nat_tests) in
    let rest = kept_part p xs 0 b (λ k d lt. at (suc k) d (omega (arith, lt)) ∙ grind (arith, nat_tests)) in
    let whole : suc b - 0 ≡ suc b = omega arith in
    let less : b ≡ b - 0 = omega arith in
    rw first (ap (λ n. take n (x ∷ xs)) whole ∙ ap (λ r. x ∷ r) (ap (λ n. take n xs) less ∙ rest))

-- where two tests hold in front of two places, what passes the second and not the first stands between them
pub kept_between : {X : Type 0} (low high p : X → Bool) (xs : List X) (a b : ℕ) → ((x : X) → p x ≡ (not (low x) && high x)) → IsPartitionPoint (λ x. low x ≡ true) (λ x. low x ≡ false) xs a → IsPartitionPoint (λ x. high x ≡ true) (λ x. high x ≡ false) xs b → take (b - a) (drop a xs) ≡ filter p xs
kept_between low high p xs a b is s t = kept_part p xs a b (λ k d lt. is (get_or xs k d) ∙ by k d lt (nat_le a k) (nat_lt k b) refl refl)
  where
    by : (k : ℕ) (d : _) → k < length xs → (u v : Bool) → nat_le a k ≡ u → nat_lt k b ≡ v → (not (low (get_or xs k d)) && high (get_or xs k d)) ≡ (nat_le a k && nat_lt k b)
    by k d lt true true e f = rw (s.1 k d (grind (arith, nat_tests, e)) lt, t.0 k d (omega arith) (grind (arith, nat_tests, f)), e, f) refl
    by k d lt true false e f = rw (s.1 k d (grind (arith, nat_tests, e)) lt, t.1 k d (grind (arith, nat_tests, f)) lt, e, f) refl
    by k d lt false v e f = rw (s.0 k d (omega arith) (grind (arith, nat_tests, e)), e) refl
