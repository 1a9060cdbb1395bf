-- How few of the records stand among others.
use Rattle.std.proofs.Common.{◌≡◌, ◌≤◌, ◌||◌, ℕ, suc, Bool, true, false, cond, List, [], ◌∷◌, Some, IsTrue, length, filter, arith, refl, sym, ap, subst, ◌∙◌}
use Rattle.std.specs.List.{All, count_by, list_any}
use Rattle.std.proofs.lemmas.Bool.{false≢true, true≢false}
use Rattle.std.proofs.lemmas.Option.{none-some}
use Rattle.std.proofs.lemmas.List.Sums.{length-filter}
use Rattle.fpl_base.specs.declared.records.RecordKey.{RecordKey as Key}
use Rattle.fpl_base.specs.Keeping.{KeysRise, is_same_key, map_of, precedes}
use Rattle.fpl_base.proofs.Around.{AllPairs-head, AllPairs-tail}
use Rattle.fpl_base.proofs.KeyLemmas.{precedes_not_back, same_key, same_key_self}
use Rattle.std.proofs.lemmas.List.Elements.{All-head, All-tail}
use Rattle.stored_records.specs.Stored.{Rows}
use Rattle.lawful_books.specs.Telling.{FewStand, FewerStand, HaveKeys}

-- the keys without the first that is this one
without : Key → List Key → List Key
without key [] = []
without key (k ∷ keys) = cond (is_same_key k key) keys (k ∷ without key keys)

length_without : (key : Key) (keys : List Key) → list_any (λ k. is_same_key k key) keys ≡ true → length keys ≡ suc (length (without key keys))
unfolding without
length_without key [] has = absurd (false≢true has)
length_without key (k ∷ keys) has =
    elim (is_same_key k key) as (λ b. (b || list_any (λ k. is_same_key k key) keys) ≡ true → suc (length keys) ≡ suc (length (cond b keys (k ∷ without key keys)))) [
      | true ↦ λ has. refl
      | false ↦ λ has. ap suc (length_without key keys has)
    ] has

-- another key is still among them
still : (key other : Key) (keys : List Key) → is_same_key key other ≡ false → list_any (λ k. is_same_key k other) keys ≡ true
    → list_any (λ k. is_same_key k other) (without key keys) ≡ true
unfolding without
still key other [] apart has = has
still key other (k ∷ keys) apart has =
    elim (is_same_key k key) as (λ b. is_same_key k key ≡ b → list_any (λ k. is_same_key k other) (cond b keys (k ∷ without key keys)) ≡ true) [
      | true ↦ λ is. past (is_same_key k other) (ap (λ x. is_same_key x other) (same_key k key is) ∙ apart) has
      | false ↦ λ is. here (is_same_key k other) (λ more. still key other keys apart more) has
    ] refl
  where
    past : (b : Bool) → b ≡ false → (b || list_any (λ k. is_same_key k other) keys) ≡ true → list_any (λ k. is_same_key k other) keys ≡ true
    past true off has = absurd (true≢false off)
    past false off has = has

    here : (b : Bool) → (list_any (λ k. is_same_key k other) keys ≡ true → list_any (λ k. is_same_key k other) (without key keys) ≡ true)
        → (b || list_any (λ k. is_same_key k other) keys) ≡ true → (b || list_any (λ k. is_same_key k other) (without key keys)) ≡ true
    here true more has = refl
    here false more has = more has

-- a record behind another has another key
behind : (low key : Key) (rows : Rows) (body : List ℕ) → All (λ row. IsTrue (precedes low row.0)) rows → map_of rows key ≡ Some body → is_same_key low key ≡ false
behind low key [] body all at = absurd (none-some body at)
behind low key (row ∷ rows) body all at =
    elim (is_same_key row.0 key) as (λ b. is_same_key row.0 key ≡ b → cond b (Some row.1) (map_of rows key) ≡ Some body → is_same_key low key ≡ false) [
      | true ↦ λ is at. precedes_not_back low key (subst (λ k. precedes low k ≡ true) (same_key row.0 key is) (All-head (λ row. IsTrue (precedes low row.0)) row rows all))
      | false ↦ λ is at. behind low key rows body (All-tail (λ row. IsTrue (precedes low row.0)) row rows all) at
    ] refl at

-- the records behind the first
have_behind : (row : Key × List ℕ) (rows : Rows) (test : Key × List ℕ → Bool) (keys : List Key) → KeysRise (row ∷ rows) → HaveKeys (row ∷ rows) test keys
    → (key : Key) (body : List ℕ) → map_of rows key ≡ Some body → test (key, body) ≡ true → (is_same_key row.0 key ≡ false) × (list_any (λ k. is_same_key k key) keys ≡ true)
have_behind row rows test keys rise have key body at passes =
    let apart = behind row.0 key rows body (AllPairs-head (λ x y. IsTrue (precedes x.0 y.0)) row rows rise) at in
    (apart, have key body (rw apart at) passes)

few : (test : Key × List ℕ → Bool) (rows : Rows) (keys : List Key) → KeysRise rows → HaveKeys rows test keys → length (filter test rows) ≤ length keys
few test [] keys rise have = omega arith
few test (row ∷ rows) keys rise have = by (test row) refl (few test rows)
  where
    rest : KeysRise rows
    rest = AllPairs-tail (λ x y. IsTrue (precedes x.0 y.0)) row rows rise

    by : (b : Bool) → test row ≡ b → ((keys : List Key) → KeysRise rows → HaveKeys rows test keys → length (filter test rows) ≤ length keys)
        → length (cond b (row ∷ filter test rows) (filter test rows)) ≤ length keys
    by false is more = more keys rest (λ key body at passes. (have_behind row rows test keys rise have key body at passes).1)
    by true is more =
        let first : list_any (λ k. is_same_key k row.0) keys ≡ true = have row.0 row.1 (rw (same_key_self row.0) refl) is in
        let left : length (filter test rows) ≤ length (without row.0 keys) = more (without row.0 keys) rest (λ key body at passes.
        (let there = have_behind row rows test keys rise have key body at passes in still row.0 key keys there.0 there.1)) in
        omega (arith, left, length_without row.0 keys first)

pub few_stand : FewStand
few_stand rows test keys rise have = rw (← length-filter test rows) (few test rows keys rise have)

-- the keys of the records that pass the test are still among the keys without one that is of none
pub fewer_stand : FewerStand
fewer_stand rows test keys this rise have among fails =
    let left : count_by test rows ≤ length (without this keys) = few_stand rows test (without this keys) rise (λ key body at passes.
    still this key keys (apart key body passes) (have key body at passes)) in
    omega (arith, left, length_without this keys among)
  where
    apart : (key : Key) (body : List ℕ) → test (key, body) ≡ true → is_same_key this key ≡ false
    apart key body passes = by (is_same_key this key) refl
      where
        by : (b : Bool) → is_same_key this key ≡ b → b ≡ false
        by false is = refl
        by true is = absurd (true≢false (sym passes ∙ ap (λ k. test (k, body)) (sym (same_key this key is)) ∙ fails body))
