-- Records that are numbered 1, 2, 3 and so on stand before the next one.
use Rattle.std.proofs.Common.{◌≡◌, ◌<◌, ◌≤◌, ◌+◌, ℕ, zero, suc, Bool, true, false, cond, not, ◌&&◌, List, [], ◌∷◌, Some, refl, sym, ap, ap₂, ◌∙◌, subst, inl, inr, arith}
use Rattle.std.specs.List.{count_by}
use Rattle.std.proofs.lemmas.Bool.{and_parts, cases_Bool}
use Rattle.std.proofs.lemmas.List.Sums.{sum_by-cons}
use Rattle.fpl_base.specs.Keeping.{is_same_key, map_of, precedes}
use Rattle.fpl_base.specs.declared.records.RecordKey.{RecordKey as Key}
use Rattle.fpl_base.proofs.KeyLemmas.{precedes_trans, same_key}
use Rattle.stored_records.specs.Stored.{Rows, between, is_within}

-- Counting.

count_next : (p : Key × List ℕ → Bool) (row : Key × List ℕ) (rows : Rows) → count_by p (row ∷ rows) ≡ cond (p row) 1 0 + count_by p rows
count_next p row rows = sum_by-cons (λ (r : Key × List ℕ). cond (p r) 1 0) row rows

abbrev one_of : Bool → ℕ
one_of b = cond b 1 0

less_or_same : (a b : Bool) → (b ≡ true → a ≡ true) → cond b 1 0 ≤ cond a 1 0
less_or_same a false implies = omega arith
less_or_same a true implies = subst (λ c. 1 ≤ cond c 1 0) (sym (implies refl)) (omega arith)

fewer : (p q : Key × List ℕ → Bool) (rows : Rows) → ((row : Key × List ℕ) → q row ≡ true → p row ≡ true) → count_by q rows ≤ count_by p rows
fewer p q [] implies = omega arith
fewer p q (row ∷ rows) implies =
    omega (arith, count_next p row rows, count_next q row rows, less_or_same (p row) (q row) (implies row), fewer p q rows implies)

one_fewer : (p q : Key × List ℕ → Bool) (rows : Rows) (k : Key) (body : List ℕ) → ((row : Key × List ℕ) → q row ≡ true → p row ≡ true)
    → map_of rows k ≡ Some body → ((b : List ℕ) → p (k, b) ≡ true) → ((b : List ℕ) → q (k, b) ≡ false) → suc (count_by q rows) ≤ count_by p rows
one_fewer p q [] k body implies there passes fails = absurd (cc)
one_fewer p q (row ∷ rows) k body implies there passes fails =
    elim (cases_Bool (is_same_key row.0 k)) [
      | inl same ↦ (
          let key : row.0 ≡ k = same_key row.0 k same in
          let one = ap one_of (ap (λ x. p (x, row.1)) key ∙ passes row.1) in
          let none = ap one_of (ap (λ x. q (x, row.1)) key ∙ fails row.1) in
          omega (arith, count_next p row rows, count_next q row rows, one, none, fewer p q rows implies))
      | inr apart ↦ (
          let rest = one_fewer p q rows k body implies (sym (ap (λ b. cond b (Some row.1) (map_of rows k)) apart) ∙ there) passes fails in
          omega (arith, count_next p row rows, count_next q row rows, less_or_same (p row) (q row) (implies row), rest))
    ]

-- Keys that rise with their numbers.
module _ (key : ℕ → Key) (rises : (i e : ℕ) → i < e → precedes (key i) (key e) ≡ true) (stays : (i e : ℕ) → e ≤ i → precedes (key i) (key e) ≡ false) where
  pub within : (i e : ℕ) → i < e → is_within (key 0) (key e) (key i) ≡ true
  within i e less = ap₂ (λ a b. not a && b) (stays i 0 (omega arith)) (rises i e less)

  not_within : (i : ℕ) → is_within (key 0) (key i) (key i) ≡ false
  not_within i = ap₂ (λ a b. not a && b) (stays i 0 (omega arith)) (stays i i (omega arith))

  wider : (i : ℕ) (k : Key) → is_within (key 0) (key i) k ≡ true → is_within (key 0) (key (i + 1)) k ≡ true
  wider i k is =
      let parts = and_parts (not (precedes k (key 0))) (precedes k (key i)) is in
      ap₂ (λ a b. a && b) parts.0 (precedes_trans k (key i) (key (i + 1)) parts.1 (rises i (i + 1) (omega arith)))

  -- so many are there
  abbrev pub AreNumbered : Rows → ℕ → Type 0
  AreNumbered rows count = (i : ℕ) → 1 ≤ i → i ≤ count → (body : List ℕ) × (map_of rows (key i) ≡ Some body)

  pub at_least : (rows : Rows) (count : ℕ) → AreNumbered rows count → count ≤ between rows (key 0) (key (count + 1))
  at_least rows zero there = omega arith
  at_least rows (suc count) there =
      let before = at_least rows count (λ i low high. there i low (omega (arith, high))) in
      let last = there (suc count) (omega arith) (omega arith) in
      let more = one_fewer (λ row. is_within (key 0) (key (suc count + 1)) row.0) (λ row. is_within (key 0) (key (suc count)) row.0)
      rows (key (suc count)) last.0
      (λ row. wider (suc count) row.0) last.1
      (λ b. within (suc count) (suc count + 1) (omega arith)) (λ b. not_within (suc count)) in
      let same : between rows (key 0) (key (count + 1)) ≡ between rows (key 0) (key (suc count))
      = ap (λ n. between rows (key 0) (key n)) (omega arith) in
      omega (arith, before, more, same)
