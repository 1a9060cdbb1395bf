-- Records of one kind that are numbered from 1, and how many records of a part stand before one of them.
use Rattle.std.proofs.Common.{◌≡◌, ◌<◌, ◌≤◌, ◌+◌, ◌-◌, ◌∙◌, ◌⊎◌, ◌&&◌, ℕ, zero, suc, Bool, true, false, List, [], ◌∷◌, length, get_or, nat_lt, Some, refl, sym, ap, subst, inl, inr, arith, if◌then◌else◌}
use Rattle.std.specs.List.{count_by}
use Rattle.std.specs.Option.{is_some}
use Rattle.std.proofs.lemmas.Bool.{cases_Bool, cases_eq}
use Rattle.std.proofs.lemmas.Bool.Decides.{nat_tests}
use Rattle.std.proofs.lemmas.List.{get_or_default}
use Rattle.fpl_base.proofs.KeyLemmas.{precedes_self, same_key}
use Rattle.fpl_base.specs.Keeping.{KeysRise, is_same_key, map_of, precedes}
use Rattle.fpl_base.specs.Rows.{IsPlace}
use Rattle.fpl_base.specs.declared.records.RecordKey.{RecordKey as Key}
use Rattle.season_records.specs.Keys.{key}
use Rattle.stored_records.proofs.Found.{between_places}
use Rattle.stored_records.proofs.Loops.{count_kept}
use Rattle.stored_records.specs.Stored.{Rows, between, is_within}
use Rattle.season_restoring.proofs.KeptRows.{kept_by, rise_kept, row_kept}
use Rattle.season_restoring.proofs.LawfulRows.{some_there}

-- what a map of records has stands at a place
pub place_in : (rows : Rows) (k : Key) (body : List ℕ) → map_of rows k ≡ Some body → (j : ℕ) × (j < length rows) × ((d : Key × List ℕ) → (get_or rows j d).0 ≡ k)
place_in [] k body there = absurd (cc)
place_in (row ∷ rows) k body there = elim (cases_Bool (is_same_key row.0 k)) [
  | inl same ↦ (0, omega arith, λ d. same_key row.0 k same)
  | inr apart ↦
      let rest = place_in rows k body (sym (ap (λ (b : Bool). if b then Some row.1 else map_of rows k) apart) ∙ there) in
      (suc rest.0, omega (arith, rest.1), rest.2)
]

-- Numbers from 1.

after_by : (kind a b : ℕ) → precedes (key kind a 0 0) (key kind b 0 0) ≡ true → a < b
after_by kind a b p = grind (arith, nat_tests, p)

-- records of one kind, each of whose numbers is 1 or stands behind the one before
pub record AreGapless (kind : ℕ) (part : Rows) : Type 0 where
  pub rise : KeysRise part
  pub plain : (i : ℕ) (d : Key × List ℕ) → i < length part → (get_or part i d).0 ≡ key kind (get_or part i d).0.a 0 0
  pub from_one : (i : ℕ) (d : Key × List ℕ) → i < length part → 1 ≤ (get_or part i d).0.a
  pub behind : (i : ℕ) (d : Key × List ℕ) → i < length part → ((get_or part i d).0.a ≡ 1) ⊎ (is_some (map_of part (key kind ((get_or part i d).0.a - 1) 0 0)) ≡ true)

module _ (kind : ℕ) (part : Rows) (are : AreGapless kind part) (d : Key × List ℕ) where
  abbrev number : ℕ → ℕ
  number i = (get_or part i d).0.a

  up : (i j : ℕ) → i < j → j < length part → number i < number j
  up i j less lt =
      after_by kind (number i) (number j)
      (sym (ap (λ k. precedes k (key kind (number j) 0 0)) (are.plain i d (omega (arith, less, lt)))) ∙ (sym (ap (precedes (get_or part i d).0) (are.plain j d lt)) ∙ are.rise i j d less lt))

  low : (i : ℕ) → i < length part → i + 1 ≤ number i
  low zero lt = omega (arith, are.from_one zero d lt)
  low (suc i) lt = omega (arith, low i (omega (arith, lt)), up i (suc i) (omega arith) lt)

  before : (i j : ℕ) → i < length part → j < length part → number j ≡ number i - 1 → j < i
  before i j lt within is = elim (cases_Bool (nat_lt j i)) [
    | inl less ↦ grind (arith, nat_tests, less)
    | inr more ↦ elim (cases_eq j i) [
      | inl same ↦ absurd (omega (arith, ap number same, is, are.from_one i d lt))
      | inr other ↦ absurd (omega (arith, up i j (grind (arith, nat_tests, more, other)) within, is))
    ]
  ]

  earlier : (i : ℕ) → i < length part → (number i ≡ 1) ⊎ ((j : ℕ) × (j < i) × (j < length part) × (number j ≡ number i - 1))
  earlier i lt = elim (are.behind i d lt) [
    | inl one ↦ inl one
    | inr there ↦
        let body = some_there (map_of part (key kind (number i - 1) 0 0)) there in
        let place = place_in part (key kind (number i - 1) 0 0) body.0 body.1 in
        let is : number place.0 ≡ number i - 1 = ap (λ (k : Key). k.a) (place.2 d) in
        inr (place.0, before i place.0 lt place.1 is, place.1, is)
  ]

  high : (n i : ℕ) → i ≤ n → i < length part → number i ≤ i + 1
  high zero i le lt = elim (earlier i lt) [
    | inl one ↦ omega (arith, one)
    | inr less ↦ absurd (omega (arith, le, less.1))
  ]
  high (suc n) i le lt = elim (earlier i lt) [
    | inl one ↦ omega (arith, one)
    | inr less ↦ omega (arith, high n less.0 (omega (arith, le, less.1)) less.2, less.1, less.3)
  ]

  pub numbered : (i : ℕ) → i < length part → (get_or part i d).0.a ≡ i + 1
  numbered i lt = omega (arith, low i lt, high i i (omega arith) lt)

-- How many stand before.

back : (x y : Key) → precedes x y ≡ true → precedes y x ≡ false
back x y p = grind (arith, nat_tests, p)

module _ (keeps : Key → Bool) (part rows : Rows) (low : Key) (i : ℕ) (row : Key × List ℕ) (rise : KeysRise rows) (is : part ≡ kept_by keeps rows) (lt : i < length part) (at : row ≡ get_or part i row) where
  place_of_low : ((x : Key) → keeps x ≡ true → precedes x low ≡ false) → IsPlace part low 0
  place_of_low first = record {
    bound = omega arith;
    before = λ k d le less. absurd (omega (arith, less));
    behind = λ k d le less.
        let here : get_or part k d ≡ get_or part k (get_or part k d) = get_or_default part k d (get_or part k d) less in
        first (get_or part k d).0 (row_kept keeps part k (get_or part k d) rows is less here);
  }

  up_part : KeysRise part
  up_part = subst KeysRise (sym is) (rise_kept keeps rows rise)

  place_of_row : IsPlace part row.0 i
  place_of_row = record {
    bound = omega (arith, lt);
    before = λ k d le less. own d (λ x. precedes (get_or part k d).0 x.0 ≡ true) (up_part k i d less lt);
    behind = λ k d le less. elim (cases_eq k i) [
      | inl same ↦ subst (λ n. precedes (get_or part n d).0 row.0 ≡ false) (sym same) (own d (λ x. precedes (get_or part i d).0 x.0 ≡ false) (precedes_self (get_or part i d).0))
      | inr other ↦ back row.0 (get_or part k d).0 (own d (λ x. precedes x.0 (get_or part k d).0 ≡ true) (up_part i k d (omega (arith, le, other)) less))
    ];
  }
    where
      own : (d : Key × List ℕ) (P : Key × List ℕ → Type 0) → P (get_or part i d) → P row
      own d P holds = subst P (get_or_default part i d row lt ∙ sym at) holds

  pub stand_before : ((x : Key) → is_within low row.0 x ≡ true → keeps x ≡ true) → ((x : Key) → keeps x ≡ true → precedes x low ≡ false) → between rows low row.0 ≡ i
  stand_before inside first =
      let alike : (x : Key × List ℕ) → (keeps x.0 && is_within low row.0 x.0) ≡ is_within low row.0 x.0 = λ x. by (is_within low row.0 x.0) (keeps x.0) (inside x.0) in
      let counted : between rows low row.0 ≡ between part low row.0
      = sym (ap (λ l. count_by (λ x. is_within low row.0 x.0) l) is ∙ (count_kept (λ x. is_within low row.0 x.0) (λ x. keeps x.0) rows ∙ ap (λ (test : Key × List ℕ → Bool). count_by test rows) (λ j x. alike x j))) in
      counted ∙ (sym (between_places part low row.0 0 i (place_of_low first) place_of_row) ∙ omega arith)
    where
      by : (w k : Bool) → (w ≡ true → k ≡ true) → (k && w) ≡ w
      by true k so = ap (λ b. b && true) (so refl)
      by false true so = refl
      by false false so = refl
