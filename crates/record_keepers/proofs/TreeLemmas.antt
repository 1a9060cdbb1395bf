-- What a step of the tree makes of its records.
use Rattle.std.proofs.Common.{◌≡◌, ◌∙◌, sym, ap, subst, refl, inl, inr, arith, ℕ, ◌<◌, ◌+◌, length, get_or, take, Bool, true, false, cond, ◌==◌, ◌&&◌, ◌||◌, nat_lt, IsTrue, List, [], ◌∷◌, ◌++◌, Option, Some, None}
use Rattle.std.specs.Prelude.{⊤, ◌⊎◌, IsSome, is_some, Result, Ok, Err, IfOk, OnOk, OnErr}
use Rattle.std.specs.declared.cmp.Ordering.{Ordering}
use Rattle.std.specs.declared.cmp.Ordering.TheVariants.{Less}
use Rattle.std.specs.Ordering.{is_eq, is_lt, nat_cmp, ordering_then}
use Rattle.std.specs.Cmp.{IsTotalOrder}
use Rattle.std.specs.List.{All, AllByRecursion}
use Rattle.std.specs.Map.{keys_of}
use Rattle.std.specs.Option.{unwrap_or}
use Rattle.std.specs.BTreeMap.{is_at}
use Rattle.std.proofs.lemmas.Bool.{false≢true}
use Rattle.std.proofs.lemmas.Bool.Decides.{nat_tests}
use Rattle.std.proofs.lemmas.Cmp.{eq_by_cmp_equiv, on_total, then_total, nat_cmp_total}
use Rattle.std.proofs.lemmas.Grind.{fold-append}
use Rattle.std.proofs.lemmas.List.{take_more}
use Rattle.std.proofs.lemmas.List.Elements.{All-nil, All-cons, All-pop, All-push, All-weaker}
use Rattle.std.proofs.lemmas.List.Kept.{AllPairs-cons}
use Rattle.std.proofs.lemmas.Map.{lookup-none}
use Rattle.std.proofs.lemmas.Map.Entries.{none_past_head}
use Rattle.std.proofs.lemmas.Map.Keys.{IsDistinct-from_sorted, sorted_head, sorted_tail}
use Rattle.fpl_base.specs.declared.records.RecordKey.{RecordKey as Key}
use Rattle.fpl_base.specs.declared.records.Op.{Op}
use Rattle.fpl_base.specs.Keeping.{Map, KeysRise, applied, applied_one, is_same_key, map_of, precedes}
use Rattle.fpl_base.proofs.KeyLemmas.{same_key}
use Rattle.record_keepers.specs.Records.{Places, key_cmp, AreOrdered, records, place_at, bodies_in, placed, undone, HasPlace, KeepsPlaces, IsFilled, IsStored, IsExchanged}

same_by : (a b : ℕ) (behind : Ordering) → is_eq (ordering_then (nat_cmp a b) behind) ≡ ((a == b) && is_eq behind)
same_by a b behind = grind (arith, nat_tests)

less_by : (a b : ℕ) (behind : Ordering) → is_lt (ordering_then (nat_cmp a b) behind) ≡ (nat_lt a b || ((a == b) && is_lt behind))
less_by a b behind = grind (arith, nat_tests)

same_last : (a b : ℕ) → is_eq (nat_cmp a b) ≡ (a == b)
same_last a b = grind (arith, nat_tests)

less_last : (a b : ℕ) → is_lt (nat_cmp a b) ≡ nat_lt a b
less_last a b = grind (arith, nat_tests)

-- the tree's order is that of the records
pub same_is : (x y : Key) → is_at (key_cmp x) y ≡ is_same_key x y
same_is x y =
    same_by x.kind y.kind _
    ∙ ap (λ t. (x.kind == y.kind) && t) (same_by x.a y.a _
    ∙ ap (λ t. (x.a == y.a) && t) (same_by x.b y.b _
    ∙ ap (λ t. (x.b == y.b) && t) (same_last x.c y.c)))

pub precedes_is : (x y : Key) → is_lt (key_cmp x y) ≡ precedes x y
precedes_is x y =
    less_by x.kind y.kind _
    ∙ ap (λ t. nat_lt x.kind y.kind || ((x.kind == y.kind) && t)) (less_by x.a y.a _
    ∙ ap (λ t. nat_lt x.a y.a || ((x.a == y.a) && t)) (less_by x.b y.b _
    ∙ ap (λ t. nat_lt x.b y.b || ((x.b == y.b) && t)) (less_last x.c y.c)))

same_back : (x y : Key) → is_same_key x y ≡ is_same_key y x
same_back x y = grind (arith, nat_tests)

pub key_total : IsTotalOrder key_cmp
key_total = then_total (on_total (λ k. k.kind) nat_cmp_total) (then_total (on_total (λ k. k.a) nat_cmp_total) (then_total (on_total (λ k. k.b) nat_cmp_total) (on_total (λ k. k.c) nat_cmp_total)))

-- a choice of the place, and then of the body in it
chosen : (b : Bool) (place : Option (List ℕ)) (found : Option (Option (List ℕ))) → unwrap_or (cond b (Some place) found) None ≡ cond b place (unwrap_or found None)
chosen true place found = refl
chosen false place found = refl

map_step : (entry : Key × Option (List ℕ)) (places : Places) (key : Key) → AreOrdered (entry ∷ places) → map_of (records places) key ≡ bodies_in places key → map_of (records (entry ∷ places)) key ≡ bodies_in (entry ∷ places) key
map_step entry places key ordered rest = by entry.1
  where
    at : is_same_key entry.0 key ≡ is_at (key_cmp key) entry.0
    at = same_back entry.0 key ∙ sym (same_is key entry.0)

    gone : is_at (key_cmp key) entry.0 ≡ true → bodies_in places key ≡ None
    gone here = ap (λ o. unwrap_or o None) (lookup-none (is_at (key_cmp key)) places (none_past_head (eq_by_cmp_equiv key_total) key entry places (IsDistinct-from_sorted key_cmp (keys_of (entry ∷ places)) ordered) here))

    empty : (b : Bool) → is_at (key_cmp key) entry.0 ≡ b → bodies_in places key ≡ unwrap_or (cond b (Some None) (place_at places key)) None
    empty true here = gone here
    empty false away = refl

    by : (place : Option (List ℕ)) → map_of (records ((entry.0, place) ∷ places)) key ≡ bodies_in ((entry.0, place) ∷ places) key
    by None = rest ∙ empty (is_at (key_cmp key) entry.0) refl
    by (Some body) =
        ap (λ m. cond (is_same_key entry.0 key) (Some body) m) rest
        ∙ ap (λ b. cond b (Some body) (bodies_in places key)) at
        ∙ sym (chosen (is_at (key_cmp key) entry.0) (Some body) (place_at places key))

-- the records of a tree have the body that stands at each key
map_is : (places : Places) → AreOrdered places → (key : Key) → map_of (records places) key ≡ bodies_in places key
map_is [] ordered key = refl
map_is (entry ∷ places) ordered key = map_step entry places key ordered (map_is places (sorted_tail key_cmp entry.0 (keys_of places) ordered) key)

pub maps_are : (places : Places) → AreOrdered places → map_of (records places) ≡ bodies_in places
maps_are places ordered = λ i key. map_is places ordered key i

-- the keys of the records rise
abbrev Rise : (Key × List ℕ) → (Key × List ℕ) → Type 0
Rise x y = IsTrue (precedes x.0 y.0)

above_step : (key : Key) (body : List ℕ) (entry : Key × Option (List ℕ)) (places : Places) → key_cmp key entry.0 ≡ Less → All (Rise (key, body)) (records places) → All (Rise (key, body)) (records (entry ∷ places))
above_step key body entry places less rest = by entry.1
  where
    by : (place : Option (List ℕ)) → All (Rise (key, body)) (records ((entry.0, place) ∷ places))
    by None = rest
    by (Some other) = All-cons (Rise (key, body)) (entry.0, other) (records places) (sym (precedes_is key entry.0) ∙ ap is_lt less) rest

above : (key : Key) (body : List ℕ) (places : Places) → AllByRecursion (λ k. key_cmp key k ≡ Less) (keys_of places) → All (Rise (key, body)) (records places)
above key body [] less = All-nil (Rise (key, body))
above key body (entry ∷ places) less = above_step key body entry places less.0 (above key body places less.1)

rise_step : (entry : Key × Option (List ℕ)) (places : Places) → AreOrdered (entry ∷ places) → KeysRise (records places) → KeysRise (records (entry ∷ places))
rise_step entry places ordered rest = by entry.1
  where
    by : (place : Option (List ℕ)) → KeysRise (records ((entry.0, place) ∷ places))
    by None = rest
    by (Some body) = AllPairs-cons Rise (entry.0, body) (records places) (above entry.0 body places (sorted_head key_cmp entry.0 (keys_of places) ordered)) rest

pub records_rise : (places : Places) → AreOrdered places → KeysRise (records places)
records_rise [] ordered = λ i j d lt less. absurd (omega arith)
records_rise (entry ∷ places) ordered = rise_step entry places ordered (records_rise places (sorted_tail key_cmp entry.0 (keys_of places) ordered))

-- what a place that is filled or emptied makes of the map
filled_at : (key : Key) (place : Option (List ℕ)) (old new : Places) (other : Key) → place_at new other ≡ cond (is_at (key_cmp key) other) (Some place) (place_at old other) → bodies_in new other ≡ cond (is_same_key key other) place (bodies_in old other)
filled_at key place old new other is =
    ap (λ o. unwrap_or o None) is ∙ chosen (is_at (key_cmp key) other) place (place_at old other) ∙ ap (λ b. cond b place (bodies_in old other)) (same_is key other)

set_is : (key : Key) (place : Option (List ℕ)) (old new : Places) → ((other : Key) → place_at new other ≡ cond (is_at (key_cmp key) other) (Some place) (place_at old other)) → bodies_in new ≡ placed (bodies_in old) (key, place)
set_is key place old new set = λ i other. filled_at key place old new other (set other) i

unset_is : (key : Key) (old : Places) → place_at old key ≡ None → bodies_in old ≡ placed (bodies_in old) (key, None)
unset_is key old away = λ i other. none other (is_same_key key other) refl i
  where
    none : (other : Key) (b : Bool) → is_same_key key other ≡ b → bodies_in old other ≡ cond (is_same_key key other) None (bodies_in old other)
    none other true same = subst (λ k. bodies_in old k ≡ None) (same_key key other same) (ap (λ o. unwrap_or o None) away) ∙ rw same refl
    none other false apart = rw apart refl

absent : {A : Type 0} {X : Type 0} (found : Option A) → found ≡ None → IsSome found → X
absent found none some = absurd (false≢true (sym (ap is_some none) ∙ some))

filled_is : (was : Key × Option (List ℕ)) (old new : Places) → HasPlace old was → IsFilled was.0 was.1 old new → bodies_in new ≡ placed (bodies_in old) was
filled_is was old new has filled = by was.1 refl (place_at old was.0) refl
  where
    by : (place : Option (List ℕ)) → was.1 ≡ place → (found : Option (Option (List ℕ))) → place_at old was.0 ≡ found → bodies_in new ≡ placed (bodies_in old) was
    by place is (Some there) found = set_is was.0 was.1 old new (filled.there (ap is_some found))
    by None is None away = ap bodies_in (filled.away away) ∙ unset_is was.0 old away ∙ ap (λ p. placed (bodies_in old) (was.0, p)) (sym is)
    by (Some body) is None away = absent (place_at old was.0) away (has (ap is_some is))

-- places stay
kept_by : (b : Bool) (place : Option (List ℕ)) (old : Option (Option (List ℕ))) → IsSome old → IsSome (cond b (Some place) old)
kept_by true place old has = refl
kept_by false place old has = has

filled_keeps : (was : Key × Option (List ℕ)) (old new : Places) → IsFilled was.0 was.1 old new → KeepsPlaces old new
filled_keeps was old new filled other has = by (place_at old was.0) refl
  where
    by : (found : Option (Option (List ℕ))) → place_at old was.0 ≡ found → IsSome (place_at new other)
    by None away = subst (λ all. IsSome (place_at all other)) (sym (filled.away away)) has
    by (Some kept) there = subst IsSome (sym (filled.there (ap is_some there) other)) (kept_by (is_at (key_cmp was.0) other) was.1 (place_at old other) has)

have_still : (old new : Places) (former : List (Key × Option (List ℕ))) → KeepsPlaces old new → All (HasPlace old) former → All (HasPlace new) former
have_still old new former keeps = All-weaker (HasPlace old) (HasPlace new) (λ entry has some. keeps entry.0 (has some)) former

-- what a place that is exchanged makes of the map
exchanged_is : (key : Key) (place : Option (List ℕ)) (old new : Places) (was : Key × Option (List ℕ)) → IsExchanged key place old new was → bodies_in new ≡ placed (bodies_in old) (key, place)
exchanged_is key place old new was is = by place refl (place_at old key) refl
  where
    by : (p : Option (List ℕ)) → place ≡ p → (found : Option (Option (List ℕ))) → place_at old key ≡ found → bodies_in new ≡ placed (bodies_in old) (key, place)
    by p same (Some there) found = set_is key place old new (is.set (inl (ap is_some found)))
    by (Some body) same None away = set_is key place old new (is.set (inr (ap is_some same)))
    by None same None away = ap bodies_in (is.same away same) ∙ unset_is key old away ∙ ap (λ p. placed (bodies_in old) (key, p)) (sym same)

exchanged_keeps : (key : Key) (place : Option (List ℕ)) (old new : Places) (was : Key × Option (List ℕ)) → IsExchanged key place old new was → KeepsPlaces old new
exchanged_keeps key place old new was is other has = by place refl (place_at old key) refl
  where
    by : (p : Option (List ℕ)) → place ≡ p → (found : Option (Option (List ℕ))) → place_at old key ≡ found → IsSome (place_at new other)
    by p same (Some there) found = subst IsSome (sym (is.set (inl (ap is_some found)) other)) (kept_by (is_at (key_cmp key) other) place (place_at old other) has)
    by (Some body) same None away = subst IsSome (sym (is.set (inr (ap is_some same)) other)) (kept_by (is_at (key_cmp key) other) place (place_at old other) has)
    by None same None away = subst (λ all. IsSome (place_at all other)) (sym (is.same away same)) has

placed_back : (m : Map) (key : Key) (place : Option (List ℕ)) → placed (placed m (key, place)) (key, m key) ≡ m
placed_back m key place = λ i other. by other (is_same_key key other) refl i
  where
    by : (other : Key) (b : Bool) → is_same_key key other ≡ b → placed (placed m (key, place)) (key, m key) other ≡ m other
    by other true same = rw same (ap m (same_key key other same))
    by other false apart = rw apart refl

stored_was : (key : Key) (place : Option (List ℕ)) (old new : Places) (was : Key × Option (List ℕ)) → IsExchanged key place old new was → IsStored old new was
stored_was key place old new was is = record {
  back =
      ap (λ n. placed n was) (exchanged_is key place old new was is)
      ∙ ap (λ k. placed (placed (bodies_in old) (key, place)) (k, was.1)) is.key_is
      ∙ ap (λ b. placed (placed (bodies_in old) (key, place)) (key, b)) (stood (place_at old key) refl)
      ∙ placed_back (bodies_in old) key place;
  place = λ some. has some (place_at old key) refl;
  others = exchanged_keeps key place old new was is;
}
  where
    stood : (found : Option (Option (List ℕ))) → place_at old key ≡ found → was.1 ≡ bodies_in old key
    stood (Some there) found = sym (ap (λ o. unwrap_or o None) (is.there (ap is_some found)))
    stood None away = is.away away ∙ sym (ap (λ o. unwrap_or o None) away)

    has : IsSome was.1 → (found : Option (Option (List ℕ))) → place_at old key ≡ found → IsSome (place_at new was.0)
    has some (Some there) found = subst (λ k. IsSome (place_at new k)) (sym is.key_is) (exchanged_keeps key place old new was is key (ap is_some found))
    has some None away = absent was.1 (is.away away) some

pub made_is : {E : Type 0} (result : Result (Key × Option (List ℕ)) E) (key : Key) (place : Option (List ℕ)) (old new : Places) (m : Map) → placed (bodies_in old) (key, place) ≡ m → IfOk result (IsExchanged key place old new) → OnOk result (bodies_in new ≡ m)
made_is (Ok was) key place old new m is exchanged = exchanged_is key place old new was exchanged ∙ is
made_is (Err fault) key place old new m is exchanged = tt

pub stood_is : {E : Type 0} (result : Result (Key × Option (List ℕ)) E) (key : Key) (place : Option (List ℕ)) (old new : Places) → IfOk result (IsExchanged key place old new) → IfOk result (IsStored old new)
stood_is (Ok was) key place old new exchanged = stored_was key place old new was exchanged
stood_is (Err fault) key place old new exchanged = tt

-- one more change is made
undone_last : (m : Map) (former : List (Key × Option (List ℕ))) (was : Key × Option (List ℕ)) → undone m (former ++ was ∷ []) ≡ undone (placed m was) former
undone_last m [] was = refl
undone_last m (entry ∷ former) was = ap (λ n. placed n entry) (undone_last m former was)

pub applied_more : (m : Map) (ops : List Op) (i : ℕ) (op : Op) → i < length ops → op ≡ get_or ops i op → applied m (take (i + 1) ops) ≡ applied_one (applied m (take i ops)) op
applied_more m ops i op lt is =
    ap (applied m) (take_more ops i op lt)
    ∙ fold-append applied_one m (take i ops) (get_or ops i op ∷ [])
    ∙ ap (applied_one (applied m (take i ops))) (sym is)

pub former_more : (m : Map) (old new : Places) (former : List (Key × Option (List ℕ))) (was : Key × Option (List ℕ)) → IsStored old new was → undone (bodies_in old) former ≡ m → undone (bodies_in new) (former ++ was ∷ []) ≡ m
former_more m old new former was stored before =
    undone_last (bodies_in new) former was ∙ ap (λ n. undone n former) stored.back ∙ before

pub places_more : (old new : Places) (former : List (Key × Option (List ℕ))) (was : Key × Option (List ℕ)) → IsStored old new was → All (HasPlace old) former → All (HasPlace new) (former ++ was ∷ [])
places_more old new former was stored have =
    All-push (HasPlace new) former was (have_still old new former stored.others have) stored.place

-- one change is put back
pub former_less : (old new : Places) (former rest : List (Key × Option (List ℕ))) (was : Key × Option (List ℕ)) → former ≡ rest ++ was ∷ [] → All (HasPlace old) former → IsFilled was.0 was.1 old new → undone (bodies_in new) rest ≡ undone (bodies_in old) former
former_less old new former rest was is have filled =
    ap (λ n. undone n rest) (filled_is was old new ((All-pop (HasPlace old) former rest (Some was) is have).1) filled)
    ∙ sym (undone_last (bodies_in old) rest was)
    ∙ ap (undone (bodies_in old)) (sym is)

pub places_less : (old new : Places) (former rest : List (Key × Option (List ℕ))) (was : Key × Option (List ℕ)) → former ≡ rest ++ was ∷ [] → All (HasPlace old) former → IsFilled was.0 was.1 old new → All (HasPlace new) rest
places_less old new former rest was is have filled =
    have_still old new rest (filled_keeps was old new filled) ((All-pop (HasPlace old) former rest (Some was) is have).0)

-- what a commit stores, and what it leaves where it gives up
pub stored_is : (seen : List (Key × List ℕ)) (old new : Places) (ops : List Op) → records old ≡ seen → AreOrdered old → AreOrdered new → bodies_in new ≡ applied (bodies_in old) ops → map_of (records new) ≡ applied (map_of seen) ops
stored_is seen old new ops shown ordered still stored =
    maps_are new still ∙ stored ∙ ap (λ m. applied m ops) (sym (maps_are old ordered) ∙ ap map_of shown)

pub left_is : (seen : List (Key × List ℕ)) (old new : Places) → records old ≡ seen → AreOrdered old → AreOrdered new → bodies_in new ≡ bodies_in old → map_of (records new) ≡ map_of seen
left_is seen old new shown ordered still same = maps_are new still ∙ same ∙ sym (maps_are old ordered) ∙ ap map_of shown

-- a commit that gave up failed as a keeper may
pub failed_is : {T E : Type 0} (result : Result T E) (seen new : List (Key × List ℕ)) (ops : List Op) → map_of new ≡ map_of seen → OnErr result (⊤ → ⊤ → (m : Map) → m ≡ map_of seen → (m ≡ map_of new) ⊎ (applied m ops ≡ map_of new))
failed_is (Ok done) seen new ops same = tt
failed_is (Err fault) seen new ops same = λ tells serves m is. inl (is ∙ sym same)
