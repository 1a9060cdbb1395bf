-- A place among the rows between two places, as one among all rows.
use Rattle.std.proofs.Common.{◌≡◌, ◌∙◌, ◌<◌, ◌≤◌, ◌+◌, ◌-◌, ℕ, Bool, true, false, nat_lt, List, length, get_or, take, drop, refl, sym, ap, subst, inl, inr, arith, length-drop}
use Rattle.std.specs.List.{HoldsAt}
use Rattle.std.proofs.lemmas.Bool.{cases_eq}
use Rattle.std.proofs.lemmas.Bool.Decides.{nat_tests}
use Rattle.std.proofs.lemmas.List.{get_or-take, get_or-drop, length-take-le}
use Rattle.fpl_base.specs.declared.records.RecordKey.{RecordKey as Key}
use Rattle.fpl_base.specs.Keeping.{precedes, KeysRise}
use Rattle.fpl_base.specs.Rows.{IsPlace}
use Rattle.fpl_base.proofs.KeyLemmas.{precedes_trans}
use Rattle.stored_records.specs.Stored.{Rows}

-- a row behind one that is not before a key is not before it either
pub not_before : (x y key : Key) → precedes x key ≡ false → precedes x y ≡ true → precedes y key ≡ false
not_before x y key away less = by (precedes y key) refl
  where
    by : (b : Bool) → precedes y key ≡ b → precedes y key ≡ false
    by false is = is
    by true is = let both = precedes_trans x y key less is in absurd cc

module _ (rows : Rows) (first end : ℕ) (low : first ≤ end) (high : end ≤ length rows) (rise : KeysRise rows) where
  abbrev part : Rows
  part = take (end - first) (drop first rows)

  part_long : length part ≡ end - first
  part_long = length-take-le (end - first) (drop first rows) (omega (arith, length-drop first rows))

  at_part : (k : ℕ) (d : Key × List ℕ) → k < end - first → get_or part k d ≡ get_or rows (first + k) d
  at_part k d lt = get_or-take (end - first) (drop first rows) k d lt ∙ get_or-drop first rows k d

  module _ (key : Key) (at : ℕ) (place : IsPlace part key at) where
    at_bound : at ≤ end - first
    at_bound = omega (arith, part_long, place.bound)

    front : (0 < first → HoldsAt (λ row. precedes row.0 key ≡ true) rows (first - 1)) → (k : ℕ) (d : Key × List ℕ) → k < first + at → precedes (get_or rows k d).0 key ≡ true
    front before k d lt = by (nat_lt k first) refl
      where
        by : (b : Bool) → nat_lt k first ≡ b → precedes (get_or rows k d).0 key ≡ true
        by false is =
            let there : k ≡ first + (k - first) = grind (arith, nat_tests, is) in
            let less : k - first < at = grind (arith, nat_tests, is, lt) in
            let here = at_part (k - first) d (omega (arith, less, at_bound)) ∙ ap (λ n. get_or rows n d) (sym there) in
            subst (λ row. precedes row.0 key ≡ true) here (place.before (k - first) d (omega arith) less)
        by true is = elim (cases_eq k (first - 1)) [
          | inl same ↦ subst (λ n. precedes (get_or rows n d).0 key ≡ true) (sym same) (before (grind (arith, nat_tests, is)) d)
          | inr other ↦
              let less : k < first - 1 = grind (arith, nat_tests, is, other) in
              precedes_trans (get_or rows k d).0 (get_or rows (first - 1) d).0 key (rise k (first - 1) d less (omega (arith, low, high, less))) (before (omega (arith, less)) d)
        ]

    back : (end < length rows → HoldsAt (λ row. precedes row.0 key ≡ false) rows end) → (k : ℕ) (d : Key × List ℕ) → first + at ≤ k → k < length rows → precedes (get_or rows k d).0 key ≡ false
    back behind k d le lt = by (nat_lt k end) refl
      where
        by : (b : Bool) → nat_lt k end ≡ b → precedes (get_or rows k d).0 key ≡ false
        by true is =
            let there : k ≡ first + (k - first) = omega (arith, le) in
            let less : k - first < end - first = grind (arith, nat_tests, is, le) in
            let here = at_part (k - first) d less ∙ ap (λ n. get_or rows n d) (sym there) in
            subst (λ row. precedes row.0 key ≡ false) here (place.behind (k - first) d (omega (arith, le)) (omega (arith, less, part_long)))
        by false is = elim (cases_eq k end) [
          | inl same ↦ subst (λ n. precedes (get_or rows n d).0 key ≡ false) (sym same) (behind (omega (arith, same, lt)) d)
          | inr other ↦
              let more : end < k = grind (arith, nat_tests, is, other) in
              not_before (get_or rows end d).0 (get_or rows k d).0 key (behind (omega (arith, more, lt)) d) (rise end k d more lt)
        ]

    pub place_further : (0 < first → HoldsAt (λ row. precedes row.0 key ≡ true) rows (first - 1)) → (end < length rows → HoldsAt (λ row. precedes row.0 key ≡ false) rows end) → IsPlace rows key (first + at)
    place_further before behind = record {
      bound = omega (arith, at_bound, low, high);
      before = λ k d le lt. front before k d lt;
      behind = λ k d le lt. back behind k d le lt;
    }
