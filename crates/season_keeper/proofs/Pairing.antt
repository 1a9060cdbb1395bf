-- The pairs that rows show.
use Rattle.std.proofs.Common.{◌≡◌, inl, inr, ℕ, ◌+◌, ◌<◌, ◌-◌, pos, Bool, true, false, IsTrue, Some, None, arith, if◌then◌else◌, List, [], ◌∷◌, ◌++◌, take, length, get_or, refl, sym, ap, ◌∙◌, subst}
use Rattle.std.specs.Prelude.{Option, Result, Ok, Err, IfOk, IfSome}
use Rattle.std.specs.List.{AllZip}
use Rattle.std.proofs.lemmas.List.{take_more}
use Rattle.sqlite_value.specs.declared.value.Value.TheVariants.{Int, Blob}
use Rattle.sqlite_value.specs.Order.{Row}
use Rattle.sqlite_catalog.proofs.ListFacts.{zip_push}
use Rattle.sqlite_rules.specs.Lists.{Has}
use Rattle.fpl_base.specs.declared.records.RecordKey.{RecordKey as Key}
use Rattle.std.specs.List.{All}
use Rattle.std.proofs.lemmas.List.{get_or_default}
use Rattle.std.proofs.lemmas.List.Elements.{All-head, All-tail}
use Rattle.std.proofs.lemmas.List.Sorted.{IsPermutation-sym}
use Rattle.std.proofs.lemmas.List.Quantifiers.{all_pairs_push}
use Rattle.std.proofs.lemmas.Bool.{cases_eq}
use Rattle.sqlite.specs.Effect.{Database}
use Rattle.fpl_base.specs.Keeping.{Map, KeysRise, map_of, precedes, is_same_key}
use Rattle.fpl_base.proofs.Around.{AllPairs-head, AllPairs-tail}
use Rattle.fpl_base.proofs.KeyLemmas.{precedes_trans, precedes_not_back, same_key, same_key_self}
use Rattle.season_keeper.specs.Holding.{Store, Holds, Tells, Keeps, Moves, records_of, lines_of}
use Rattle.season_keeper.specs.Rows.{record_values, Stored, IsReading, Shows, ShowAll, ShowEach}
use Rattle.season_keeper.proofs.Lists.{has_permuted}

pub show_more : (rows : List Row) (row : Row) (all new : List (Key × List ℕ)) (one : Key × List ℕ) → new ≡ all ++ one ∷ [] → ShowEach rows all → Shows row one → ShowEach (rows ++ row ∷ []) new
show_more rows row all new one pushed each shows = rw pushed (zip_push Shows rows all row one each shows)

int_same : (m n : ℕ) → Int (pos m) ≡ Int (pos n) → m ≡ n
int_same m n h = cc

-- what the row shows is what the table has
shown_is : (k : Key) (body : List ℕ) (p : Key × List ℕ) → Shows (record_values k body) p → (k ≡ p.0) × (body ≡ p.1)
shown_is k body p s =
    let kind = int_same k.kind p.0.kind s.kind in
    let a = int_same k.a p.0.a s.a in
    let b = int_same k.b p.0.b s.b in
    let c = int_same k.c p.0.c s.c in
    let text : Blob body ≡ Blob p.1 = s.body in
    (λ i. record { kind = kind i; a = a i; b = b i; c = c i }, cc)

has_zip : {A B : Type 0} (R : A → B → Type 0) (xs : List A) (ys : List B) (y : B) → AllZip R xs ys → Has ys y → (x : A) × Has xs x × R x y
has_zip R [] (b ∷ ys) y all h = absurd all
has_zip R [] [] y all h = absurd h
has_zip R (a ∷ xs) [] y all h = absurd h
has_zip R (a ∷ xs) (b ∷ ys) y all (inl same) = (a, inl refl, subst (R a) (sym same) all.0)
has_zip R (a ∷ xs) (b ∷ ys) y all (inr more) = let it = has_zip R xs ys y all.1 more in (it.0, inr it.1, it.2)

zip_has : {A B : Type 0} (R : A → B → Type 0) (xs : List A) (ys : List B) (x : A) → AllZip R xs ys → Has xs x → (y : B) × Has ys y × R x y
zip_has R [] ys x all h = absurd h
zip_has R (a ∷ xs) [] x all h = absurd all
zip_has R (a ∷ xs) (b ∷ ys) x all (inl same) = (b, inl refl, subst (λ q. R q b) (sym same) all.0)
zip_has R (a ∷ xs) (b ∷ ys) x all (inr more) = let it = zip_has R xs ys x all.1 more in (it.0, inr it.1, it.2)

-- the pairs are those of the table, and no other
pub pairs_sound : (records lines rows : List Row) (pairs : List (Key × List ℕ)) → IsReading records lines rows → ShowAll rows pairs → (p : Key × List ℕ) → Has pairs p → Stored records lines p.0 p.1
pairs_sound records lines rows pairs reading all p h =
    let row = has_zip Shows rows all.0 p all.1 (has_permuted all.0 pairs p all.2 h) in
    let it = reading.sound row.0 row.1 in
    let same = shown_is it.0 it.1 p (subst (λ r. Shows r p) it.3 row.2) in
    subst (λ k. Stored records lines k p.1) same.0 (subst (Stored records lines it.0) same.1 it.2)

pub pairs_complete : (records lines rows : List Row) (pairs : List (Key × List ℕ)) → IsReading records lines rows → ShowAll rows pairs → (k : Key) (body : List ℕ) → Stored records lines k body
    → (p : Key × List ℕ) × Has pairs p × (k ≡ p.0) × (body ≡ p.1)
pairs_complete records lines rows pairs reading all k body h =
    let p = zip_has Shows rows all.0 (record_values k body) all.1 (reading.complete k body h) in
    let same = shown_is k body p.0 p.2 in (p.0, has_permuted pairs all.0 p.0 (IsPermutation-sym _ _ all.2) p.1, same.0, same.1)

abbrev Rises : (Key × List ℕ) → (Key × List ℕ) → Type 0
Rises x y = IsTrue (precedes x.0 y.0)

has_all : {X : Type 0} (P : X → Type 0) (xs : List X) (x : X) → All P xs → Has xs x → P x
has_all P [] x all h = absurd h
has_all P (y ∷ xs) x all (inl same) = subst P (sym same) (All-head P y xs all)
has_all P (y ∷ xs) x all (inr more) = has_all P xs x (All-tail P y xs all) more

-- where the last key stands before a key, all do
pub all_before : (pairs : List (Key × List ℕ)) (key : Key) (last : Key × List ℕ) → KeysRise pairs → last ≡ get_or pairs (length pairs - 1) last → precedes last.0 key ≡ true → All (λ pair. precedes pair.0 key ≡ true) pairs
all_before pairs key last rise is before k d low = elim (cases_eq k (length pairs - 1)) [
  | inl same ↦ subst (λ p. precedes p.0 key ≡ true) (is ∙ get_or_default pairs (length pairs - 1) last d (omega (arith, low)) ∙ ap (λ i. get_or pairs i d) (sym same)) before
  | inr other ↦ precedes_trans (get_or pairs k d).0 last.0 key (subst (λ p. precedes (get_or pairs k d).0 p.0 ≡ true) (get_or_default pairs (length pairs - 1) d last (omega (arith, low)) ∙ sym is) (rise k (length pairs - 1) d (omega (arith, low, other)) (omega (arith, low)))) before
]

-- where the next key stands behind all before it, one more rises
pub rise_more : (pairs : List (Key × List ℕ)) (i : ℕ) (pair : Key × List ℕ) → i < length pairs → pair ≡ get_or pairs i pair → KeysRise (take i pairs) → All (λ p. precedes p.0 pair.0 ≡ true) (take i pairs) → KeysRise (take (i + 1) pairs)
rise_more pairs i pair low is rise behind =
    let more : take (i + 1) pairs ≡ take i pairs ++ pair ∷ [] = take_more pairs i pair low ∙ ap (λ p. take i pairs ++ p ∷ []) (sym is) in
    subst KeysRise (sym more) (all_pairs_push Rises (take i pairs) pair rise behind)

-- a pair of rising keys is in the map
map_has : (pairs : List (Key × List ℕ)) (p : Key × List ℕ) → KeysRise pairs → Has pairs p → map_of pairs p.0 ≡ Some p.1
map_has [] p rise h = absurd h
map_has (q ∷ more) p rise (inl same) = rw same (rw (same_key_self q.0) refl)
map_has (q ∷ more) p rise (inr later) =
    let before = has_all (Rises q) more p (AllPairs-head Rises q more rise) later in
    rw (precedes_not_back q.0 p.0 before) (map_has more p (AllPairs-tail Rises q more rise) later)

has_map : (pairs : List (Key × List ℕ)) (k : Key) (body : List ℕ) → map_of pairs k ≡ Some body → (p : Key × List ℕ) × Has pairs p × (p.0 ≡ k) × (p.1 ≡ body)
has_map [] k body h = absurd (none_some h)
  where
    none_some : {X : Type 0} {x : X} → None ≡ Some x → ⊥
    none_some e = cc
has_map (q ∷ more) k body h = go (is_same_key q.0 k) refl h (has_map more k body)
  where
    go : (b : Bool) → is_same_key q.0 k ≡ b → (if b then Some q.1 else map_of more k) ≡ Some body → (map_of more k ≡ Some body → (p : Key × List ℕ) × Has more p × (p.0 ≡ k) × (p.1 ≡ body)) → (p : Key × List ℕ) × Has (q ∷ more) p × (p.0 ≡ k) × (p.1 ≡ body)
    go true e f rest = (q, inl refl, same_key q.0 k e, cc)
    go false e f rest = let it = rest f in (it.0, inr it.1, it.2, it.3)

-- the pairs of a reading are the map that the table holds
pub reading_holds : (records lines rows : List Row) (pairs : List (Key × List ℕ)) → IsReading records lines rows → ShowAll rows pairs → KeysRise pairs → Holds records lines (map_of pairs)
reading_holds records lines rows pairs reading each rise = record {
  sound = λ k body stores.
      let it = pairs_complete records lines rows pairs reading each k body stores in
      ap (map_of pairs) it.2 ∙ (map_has pairs it.0 rise it.1 ∙ ap Some (sym it.3));
  complete = λ k body h.
      let it = has_map pairs k body h in
      subst (λ b. Stored records lines k b) it.3 (subst (λ q. Stored records lines q it.0.1) it.2 (pairs_sound records lines rows pairs reading each it.0 it.1));
}

-- what was moved keeps the map that the tables told
pub moved_keeps : (before after : Database) (was : Store before) (m : Map) (it : Moves before after was) → Holds (records_of it.store) (lines_of it.store) m → Tells before m × Keeps after m
moved_keeps before after was m it holds = (
  record { store = was; apart = it.apart; holds = record { sound = λ k body h. holds.sound k body (it.forth k body h); complete = λ k body h. it.back k body (holds.complete k body h) } },
  record { store = it.store; both = it.both; moved = it.moved; holds = holds },
)

pub both_ok : {T E : Type 0} {P Q R : T → Type 0} (r : Result (Option T) E) → ((x : T) → P x → Q x → R x) → IfOk r (λ f. IfSome f P) → IfOk r (λ f. IfSome f Q) → IfOk r (λ f. IfSome f R)
both_ok (Ok (Some x)) f p q = f x p q
both_ok (Ok None) f p q = tt
both_ok (Err e) f p q = tt
