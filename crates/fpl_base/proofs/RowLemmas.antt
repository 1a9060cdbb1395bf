-- Records in the order of their keys, with one more or one less.
use Rattle.std.proofs.Common.{◌≡◌, ◌<◌, ◌+◌, inl, inr, ℕ, Bool, true, false, IsTrue, List, [], ◌∷◌, ◌++◌, take, drop, reverse, length, Some, None, refl, subst, sym, ap, ◌∙◌, slice_index_or, slice_set, if◌then◌else◌, arith, add-one}
use Rattle.std.specs.List.{All, HoldsAt, insert}
use Rattle.std.specs.List.Sorted.{IsPartitionedBy}
use Rattle.std.proofs.lemmas.Bool.{cases_eq}
use Rattle.std.proofs.lemmas.List.{take-append-drop, reverse-append, reverse-reverse}
use Rattle.fpl_base.specs.declared.records.Op.{Op}
use Rattle.std.proofs.lemmas.List.Elements.{All-head, All-tail}
use Rattle.std.proofs.lemmas.List.Quantifiers.{all_pairs_remove}
use Rattle.fpl_base.specs.declared.records.RecordKey.{RecordKey as Key}
use Rattle.fpl_base.specs.declared.records.Op.TheVariants.{Put, Delete}
use Rattle.fpl_base.specs.Keeping.{Map, applied, applied_one, precedes, is_same_key, map_of, KeysRise}
use Rattle.fpl_base.specs.Rows.{IsPlace}
use Rattle.fpl_base.proofs.Around.{All-take_from, All-drop_from, AllPairs-middle, parts_at, set_parts}
use Rattle.fpl_base.proofs.KeyLemmas.{precedes_trans, precedes_or, precedes_not_back, precedes_not_same, same_key, same_key_self}

-- the records before a key are in front of the others
pub parted : (rows : List (Key × List ℕ)) (key : Key) → KeysRise rows → IsPartitionedBy (λ row. precedes row.0 key) rows
parted rows key rise i j d le lt before = elim (cases_eq i j) [
  | inl same ↦ ap (λ k. precedes (slice_index_or rows k d).0 key) same ∙ before
  | inr other ↦ precedes_trans (slice_index_or rows i d).0 (slice_index_or rows j d).0 key (rise i j d (omega (arith, other)) lt) before
]

abbrev Rows : Type 0
Rows = List (Key × List ℕ)

-- the keys of the rows stand before the key, or behind it
abbrev pub Before : Key → Rows → Type 0
Before key = All (λ row. precedes row.0 key ≡ true)

abbrev pub Behind : Key → Rows → Type 0
Behind key = All (λ row. precedes key row.0 ≡ true)

map_past : (front rest : Rows) (key : Key) → Before key front → map_of (front ++ rest) key ≡ map_of rest key
map_past [] rest key before = refl
map_past (row ∷ front) rest key before =
    let other = precedes_not_back row.0 key (All-head (λ x. precedes x.0 key ≡ true) row front before) in
    rw other (map_past front rest key (All-tail (λ x. precedes x.0 key ≡ true) row front before))

map_gone : (back : Rows) (key : Key) → Behind key back → map_of back key ≡ None
map_gone [] key behind = refl
map_gone (row ∷ back) key behind =
    let other = precedes_not_same row.0 key (All-head (λ x. precedes key x.0 ≡ true) row back behind) in
    rw other (map_gone back key (All-tail (λ x. precedes key x.0 ≡ true) row back behind))

pub map_other : (front rest : Rows) (row : Key × List ℕ) (other : Key) → is_same_key row.0 other ≡ false → map_of (front ++ row ∷ rest) other ≡ map_of (front ++ rest) other
map_other [] rest row other away = rw away refl
map_other (first ∷ front) rest row other away = ap (λ m. if is_same_key first.0 other then Some first.1 else m) (map_other front rest row other away)

-- two maps that differ under one key at most
abbrev pub AgreeBut : Key → Map → Map → Type 0
AgreeBut key m n = (other : Key) → is_same_key key other ≡ false → m other ≡ n other

pub put_is : (front back : Rows) (key : Key) (body : List ℕ) (old : Map) → Before key front → AgreeBut key old (map_of (front ++ back)) → map_of (front ++ (key, body) ∷ back) ≡ applied_one old (Put key body)
put_is front back key body old before agree = λ i other. by other (is_same_key key other) refl i
  where
    by : (other : Key) (b : Bool) → is_same_key key other ≡ b → map_of (front ++ (key, body) ∷ back) other ≡ applied_one old (Put key body) other
    by other true same =
        let here : map_of (front ++ (key, body) ∷ back) key ≡ Some body = map_past front ((key, body) ∷ back) key before ∙ rw (same_key_self key) refl in
        ap (map_of (front ++ (key, body) ∷ back)) (sym (same_key key other same)) ∙ (here ∙ rw same refl)
    by other false away = map_other front back (key, body) other away ∙ (sym (agree other away) ∙ rw away refl)

pub delete_is : (front back : Rows) (key : Key) (old : Map) → Before key front → Behind key back → AgreeBut key old (map_of (front ++ back)) → map_of (front ++ back) ≡ applied_one old (Delete key)
delete_is front back key old before behind agree = λ i other. by other (is_same_key key other) refl i
  where
    by : (other : Key) (b : Bool) → is_same_key key other ≡ b → map_of (front ++ back) other ≡ applied_one old (Delete key) other
    by other true same =
        let none : map_of (front ++ back) key ≡ None = map_past front back key before ∙ map_gone back key behind in
        ap (map_of (front ++ back)) (sym (same_key key other same)) ∙ (none ∙ rw same refl)
    by other false away = sym (agree other away) ∙ rw away refl

abbrev Rise : (Key × List ℕ) → (Key × List ℕ) → Type 0
Rise x y = IsTrue (precedes x.0 y.0)

module _ (rows : Rows) (key : Key) (at : ℕ) (rise : KeysRise rows) (place : IsPlace rows key at) where
  front_before : Before key (take at rows)
  front_before = All-take_from (λ x. precedes x.0 key ≡ true) rows at place.bound (λ k d lt. place.before k d (omega arith) lt)

  module _ (lt : at < length rows) (here : HoldsAt (λ row. row.0 ≡ key) rows at) where
    back_behind : Behind key (drop (at + 1) rows)
    back_behind = All-drop_from (λ x. precedes key x.0 ≡ true) rows (at + 1) (λ k d low less. subst (λ x. precedes x (slice_index_or rows k d).0 ≡ true) (here d) (rise at k d (omega (arith, low)) less))

    agree : AgreeBut key (map_of rows) (map_of (take at rows ++ drop (at + 1) rows))
    agree other away =
        let d : Key × List ℕ = (key, []) in
        ap (λ l. map_of l other) (parts_at rows at d lt) ∙ map_other (take at rows) (drop (at + 1) rows) (slice_index_or rows at d) other (subst (λ x. is_same_key x other ≡ false) (sym (here d)) away)

    pub replaced_is : (body : List ℕ) → map_of (slice_set rows at (key, body)) ≡ applied_one (map_of rows) (Put key body)
    replaced_is body = ap map_of (set_parts rows at (key, body) lt) ∙ put_is (take at rows) (drop (at + 1) rows) key body (map_of rows) front_before agree

    shorter : KeysRise (take at rows ++ drop (at + 1) rows)
    shorter = rw (add-one at) (all_pairs_remove Rise rows at lt rise)

    pub replaced_rises : (body : List ℕ) → KeysRise (slice_set rows at (key, body))
    replaced_rises body = subst KeysRise (sym (set_parts rows at (key, body) lt)) (AllPairs-middle Rise (take at rows) (drop (at + 1) rows) (key, body) shorter front_before back_behind)

    pub removed_is : map_of (take at rows ++ drop (at + 1) rows) ≡ applied_one (map_of rows) (Delete key)
    removed_is = delete_is (take at rows) (drop (at + 1) rows) key (map_of rows) front_before back_behind agree

    pub removed_rises : KeysRise (take at rows ++ drop (at + 1) rows)
    removed_rises = shorter

  module _ (away : at < length rows → HoldsAt (λ row. is_same_key row.0 key ≡ false) rows at) where
    first_behind : (d : Key × List ℕ) → at < length rows → precedes key (slice_index_or rows at d).0 ≡ true
    first_behind d lt = precedes_or (slice_index_or rows at d).0 key (place.behind at d (omega arith) lt) (away lt d)

    all_behind : Behind key (drop at rows)
    all_behind = All-drop_from (λ x. precedes key x.0 ≡ true) rows at (λ k d low less. elim (cases_eq k at) [
      | inl same ↦ ap (λ i. precedes key (slice_index_or rows i d).0) same ∙ first_behind d (omega (arith, same))
      | inr other ↦ precedes_trans key (slice_index_or rows at d).0 (slice_index_or rows k d).0 (first_behind d (omega (arith, low))) (rise at k d (omega (arith, other)) less)
    ])

    whole : AgreeBut key (map_of rows) (map_of (take at rows ++ drop at rows))
    whole other away = ap (λ l. map_of l other) (sym (take-append-drop at rows))

    pub inserted_is : (body : List ℕ) → map_of (insert rows at (key, body)) ≡ applied_one (map_of rows) (Put key body)
    inserted_is body = put_is (take at rows) (drop at rows) key body (map_of rows) front_before whole

    pub inserted_rises : (body : List ℕ) → KeysRise (insert rows at (key, body))
    inserted_rises body = AllPairs-middle Rise (take at rows) (drop at rows) (key, body) (subst KeysRise (sym (take-append-drop at rows)) rise) front_before all_behind

    pub absent_is : map_of rows ≡ applied_one (map_of rows) (Delete key)
    absent_is = ap map_of (sym (take-append-drop at rows)) ∙ delete_is (take at rows) (drop at rows) key (map_of rows) front_before all_behind whole

-- the last of the changes is applied first
pub next_is : (changes rest : List Op) (change : Op) (m n : Map) → changes ≡ rest ++ change ∷ [] → n ≡ applied_one m change → applied n (reverse rest) ≡ applied m (reverse changes)
next_is changes rest change m n split is =
    ap (λ k. applied k (reverse rest)) is ∙ sym (ap (λ l. applied m (reverse l)) split ∙ ap (applied m) (reverse-append rest (change ∷ [])))

pub stored_is : (old rows : Rows) (ops changes : List Op) (stored : Map) → rows ≡ old → changes ≡ reverse ops → stored ≡ applied (map_of rows) (reverse changes) → stored ≡ applied (map_of old) ops
stored_is old rows ops changes stored same back is =
    is ∙ (ap (λ r. applied (map_of r) (reverse changes)) same ∙ ap (applied (map_of old)) (ap reverse back ∙ reverse-reverse ops))
