-- The numbers of entries by their keys, as entries come and change.
use Rattle.std.proofs.Common.{◌≡◌, ◌<◌, ◌≤◌, ◌+◌, ◌∷◌, [], ◌++◌, ◌-◌, ℕ, zero, suc, Bool, true, false, cond, List, Option, Some, None, length, set, get_or, arith, refl, sym, ap, subst, ◌∙◌, nat_eq, length-append}
use Rattle.std.specs.Prelude.{IfSome, Vec}
use Rattle.std.specs.Str.{bytes_eq}
use Rattle.std.specs.Map.{lookup, AreApart as Differ, IsKeyTest, KeepsOthers}
use Rattle.std.specs.BTreeMap.{BTreeMap, UpdatesBy, insert_entry}
use Rattle.std.specs.Ordering.{eq_by_cmp, is_eq, nat_cmp, match_ordering}
use Rattle.std.specs.Cmp.Lexicographic.{slice_cmp}
use Rattle.std.specs.declared.alloc.Global.{Global}
use Rattle.std.specs.declared.cmp.Ordering.{Ordering}
use Rattle.std.specs.declared.cmp.Ordering.TheVariants.{Less, Equal, Greater}
use Rattle.std.proofs.lemmas.Cmp.{eq_by_cmp_equiv, nat_list_cmp_total, nat_list_eq_equiv}
use Rattle.std.proofs.lemmas.Map.Lookups.{exact_bytes}
use Rattle.std.proofs.lemmas.Map.Text.{is_eq-slice_cmp}
use Rattle.std.proofs.lemmas.Bool.{false≢true}
use Rattle.std.proofs.lemmas.Bool.Decides.{nat_tests}
use Rattle.std.proofs.lemmas.List.{length-set}
use Rattle.rule_book.specs.declared.transfers.Sale.{Sale}
use Rattle.rule_book.specs.Entries.{changed_in}
use Rattle.season_ledger.specs.declared.row.Row.{Row}
use Rattle.manager_book.specs.declared.manager.Manager.{Manager}
use Rattle.manager_book.specs.Managers.{AreApart, number_from, with_key}
use Rattle.manager_book.specs.Indexed.{IsIndexed, number_at}

-- numbers count from n on
pub number_least : (n : ℕ) (ms : List Manager) (key : List ℕ) (k : ℕ) → number_from n ms key ≡ Some k → n ≤ k
number_least n [] key k e = cc
number_least n (m ∷ ms) key k e = step (bytes_eq key m.key) (λ f. number_least (n + 1) ms key k f) e
  where
    step : (b : Bool) → (number_from (n + 1) ms key ≡ Some k → n + 1 ≤ k) → cond b (Some n) (number_from (n + 1) ms key) ≡ Some k → n ≤ k
    step true ih e = let x : n ≡ k = cc in omega arith
    step false ih e = let x : n + 1 ≤ k = ih e in omega arith

-- and there are as many as managers
pub number_most : (n : ℕ) (ms : List Manager) (key : List ℕ) (k : ℕ) → number_from n ms key ≡ Some k → k < n + length ms
number_most n [] key k e = cc
number_most n (m ∷ ms) key k e = step (bytes_eq key m.key) (λ f. number_most (n + 1) ms key k f) e
  where
    step : (b : Bool) → (number_from (n + 1) ms key ≡ Some k → k < (n + 1) + length ms) → cond b (Some n) (number_from (n + 1) ms key) ≡ Some k → k < n + length (m ∷ ms)
    step true ih e = let x : n ≡ k = cc in omega arith
    step false ih e = let x : k < (n + 1) + length ms = ih e in omega arith

-- one manager more
abbrev other_of : Option ℕ → Option ℕ → Option ℕ
other_of None y = y
other_of (Some x) y = Some x

number-push : (n : ℕ) (ms : List Manager) (m : Manager) (key : List ℕ) → number_from n (ms ++ m ∷ []) key ≡ other_of (number_from n ms key) (cond (bytes_eq key m.key) (Some (n + length ms)) None)
number-push n [] m key = let z : n + 0 ≡ n = omega arith in rw z refl
number-push n (x ∷ ms) m key = step (bytes_eq key x.key) (number-push (n + 1) ms m key)
  where
    step : (b : Bool) → number_from (n + 1) (ms ++ m ∷ []) key ≡ other_of (number_from (n + 1) ms key) (cond (bytes_eq key m.key) (Some ((n + 1) + length ms)) None)
        → cond b (Some n) (number_from (n + 1) (ms ++ m ∷ []) key) ≡ other_of (cond b (Some n) (number_from (n + 1) ms key)) (cond (bytes_eq key m.key) (Some (n + suc (length ms))) None)
    step true i = refl
    step false i = let z : n + suc (length ms) ≡ (n + 1) + length ms = omega arith in rw z i

same_bytes : (a b : List ℕ) → bytes_eq a b ≡ true → a ≡ b
same_bytes a b e = exact_bytes a b (is_equal (slice_cmp nat_cmp a b) (is_eq-slice_cmp a b ∙ e))
  where
    is_equal : (o : Ordering) → is_eq o ≡ true → o ≡ Equal
    is_equal Less e = cc
    is_equal Equal e = refl
    is_equal Greater e = cc

bytes_same : (a b : List ℕ) → a ≡ b → bytes_eq a b ≡ true
bytes_same a b e = ap (bytes_eq a) (sym e) ∙ own a
  where
    own : (l : List ℕ) → bytes_eq l l ≡ true
    own [] = refl
    own (x ∷ l) = let t : nat_eq x x ≡ true = grind (arith, nat_tests) in rw t (own l)

-- one number more in the map
abbrev pub by_items : Vec ℕ Global → Vec ℕ Global → Ordering
by_items a b = slice_cmp nat_cmp a.items b.items

abbrev number_in : List (Vec ℕ Global × ℕ) → List ℕ → Option ℕ
number_in es key = lookup (λ (k : Vec ℕ Global). is_eq (slice_cmp nat_cmp key k.items)) es

pub number-insert : (es : List (Vec ℕ Global × ℕ)) (k : Vec ℕ Global) (v : ℕ) (key : List ℕ) → number_in (insert_entry by_items es k v) key ≡ cond (bytes_eq key k.items) (Some v) (number_in es key)
number-insert [] k v key = ap (λ b. cond b (Some v) None) (is_eq-slice_cmp key k.items)
number-insert (e ∷ es) k v key = by_order (by_items k e.0) refl (number-insert es k v key)
  where
    test : is_eq (slice_cmp nat_cmp key k.items) ≡ bytes_eq key k.items
    test = is_eq-slice_cmp key k.items

    by_order : (o : Ordering) → by_items k e.0 ≡ o → number_in (insert_entry by_items es k v) key ≡ cond (bytes_eq key k.items) (Some v) (number_in es key)
        → number_in (match_ordering o ((k, v) ∷ e ∷ es) ((e.0, v) ∷ es) (e ∷ insert_entry by_items es k v)) key ≡ cond (bytes_eq key k.items) (Some v) (cond (is_eq (slice_cmp nat_cmp key e.0.items)) (Some e.1) (number_in es key))
    by_order Less q i = ap (λ b. cond b (Some v) (cond (is_eq (slice_cmp nat_cmp key e.0.items)) (Some e.1) (number_in es key))) test
    by_order Equal q i = let s : k.items ≡ e.0.items = exact_bytes k.items e.0.items q in
        let t : is_eq (slice_cmp nat_cmp key e.0.items) ≡ bytes_eq key k.items = ap (λ l. is_eq (slice_cmp nat_cmp key l)) (sym s) ∙ test in rw t (twice (bytes_eq key k.items))
      where
        twice : (b : Bool) → cond b (Some v) (number_in es key) ≡ cond b (Some v) (cond b (Some e.1) (number_in es key))
        twice true = refl
        twice false = refl
    by_order Greater q i = ap (λ o. cond (is_eq (slice_cmp nat_cmp key e.0.items)) (Some e.1) o) i ∙ turn (is_eq (slice_cmp nat_cmp key e.0.items)) (bytes_eq key k.items) refl refl
      where
        clash : bytes_eq key k.items ≡ true → is_eq (slice_cmp nat_cmp key e.0.items) ≡ true → ⊥
        clash a b = let x : key ≡ k.items = same_bytes key k.items a in let y : key ≡ e.0.items = same_bytes key e.0.items (sym (is_eq-slice_cmp key e.0.items) ∙ b) in
            let z : is_eq (slice_cmp nat_cmp k.items e.0.items) ≡ true = is_eq-slice_cmp k.items e.0.items ∙ bytes_same k.items e.0.items (sym x ∙ y) in
            let w : is_eq Greater ≡ true = ap is_eq (sym q) ∙ z in cc

        turn : (a b : Bool) → is_eq (slice_cmp nat_cmp key e.0.items) ≡ a → bytes_eq key k.items ≡ b → cond a (Some e.1) (cond b (Some v) (number_in es key)) ≡ cond b (Some v) (cond a (Some e.1) (number_in es key))
        turn true true p r = absurd (clash r p)
        turn true false p r = refl
        turn false b p r = refl

-- No two managers have the same key.

none_shift : (n k : ℕ) (ms : List Manager) (key : List ℕ) → number_from n ms key ≡ None → number_from k ms key ≡ None
none_shift n k [] key none = refl
none_shift n k (m ∷ ms) key none = step (bytes_eq key m.key) (none_shift (n + 1) (k + 1) ms key) none
  where
    step : (b : Bool) → (number_from (n + 1) ms key ≡ None → number_from (k + 1) ms key ≡ None) → cond b (Some n) (number_from (n + 1) ms key) ≡ None → cond b (Some k) (number_from (k + 1) ms key) ≡ None
    step true rest none = cc
    step false rest none = rest none

-- a number counted from another start
number_moved : (n d : ℕ) (ms : List Manager) (key : List ℕ) (x : ℕ) → number_from ((n + 1) + d) ms key ≡ Some x → number_from (1 + d) ms key ≡ Some (x - n)
number_moved n d [] key x at = cc
number_moved n d (m ∷ ms) key x at = step (bytes_eq key m.key) (λ rest. number_moved n (d + 1) ms key x rest) at
  where
    one : (n d : ℕ) → ((n + 1) + d) + 1 ≡ (n + 1) + (d + 1)
    one n d = omega arith

    two : (d : ℕ) → (1 + d) + 1 ≡ 1 + (d + 1)
    two d = omega arith

    step : (b : Bool) → (number_from ((n + 1) + (d + 1)) ms key ≡ Some x → number_from (1 + (d + 1)) ms key ≡ Some (x - n))
        → cond b (Some ((n + 1) + d)) (number_from (((n + 1) + d) + 1) ms key) ≡ Some x → cond b (Some (1 + d)) (number_from ((1 + d) + 1) ms key) ≡ Some (x - n)
    step true rest is = let y : (n + 1) + d ≡ x = cc in ap Some (omega (arith, y))
    step false rest is = ap (λ k. number_from k ms key) (two d) ∙ rest (ap (λ k. number_from k ms key) (sym (one n d)) ∙ is)

not_first : (b : Bool) (n : ℕ) (o : Option ℕ) → cond b (Some n) o ≡ None → (b ≡ false) × (o ≡ None)
not_first true n o none = cc
not_first false n o none = (refl, none)

number_set_at : (n : ℕ) (l : List Manager) (j : ℕ) (m : Manager) (s : List Row) (t : List (ℕ × Sale)) (key : List ℕ) → m ≡ get_or l j m → number_from n (set l j (record { key = m.key; name = m.name; season = s; sales = t })) key ≡ number_from n l key
number_set_at n [] j m s t key e = refl
number_set_at n (y ∷ l) zero m s t key e = ap (λ (z : Manager). cond (bytes_eq key z.key) (Some n) (number_from (n + 1) l key)) e
number_set_at n (y ∷ l) (suc j) m s t key e = ap (λ o. cond (bytes_eq key y.key) (Some n) o) (number_set_at (n + 1) l j m s t key e)

apart_set : (l : List Manager) (j : ℕ) (m : Manager) (s : List Row) (t : List (ℕ × Sale)) → m ≡ get_or l j m → AreApart l → AreApart (set l j (record { key = m.key; name = m.name; season = s; sales = t }))
apart_set [] j m s t e a = tt
apart_set (y ∷ l) zero m s t e a = (ap (λ (z : Manager). number_from 1 l z.key) e ∙ a.0, a.1)
apart_set (y ∷ l) (suc j) m s t e a = (number_set_at 1 l j m s t y.key e ∙ a.0, apart_set l j m s t e a.1)

apart_add : (ms : List Manager) (m : Manager) → AreApart ms → number_from 1 ms m.key ≡ None → AreApart (ms ++ m ∷ [])
apart_add [] m a fresh = (refl, tt)
apart_add (x ∷ ms) m a fresh =
    let other = not_first (bytes_eq m.key x.key) 1 (number_from 2 ms m.key) fresh in
    let back : bytes_eq x.key m.key ≡ false = nat_list_eq_equiv.symm x.key m.key ∙ other.0 in (
      number-push 1 ms m x.key ∙ ap (λ o. other_of o (cond (bytes_eq x.key m.key) (Some (1 + length ms)) None)) a.0 ∙ ap (λ b. cond b (Some (1 + length ms)) None) back,
      apart_add ms m a.1 (none_shift 2 1 ms m.key other.1),
    )

-- A manager with another key.

-- who stands among others has none of the keys that none of them has
not_there : (n : ℕ) (l : List Manager) (j : ℕ) (m : Manager) (key : List ℕ) → m ≡ get_or l j m → j < length l → number_from n l key ≡ None → bytes_eq key m.key ≡ false
not_there n [] j m key e lt none = absurd (omega arith)
not_there n (y ∷ l) zero m key e lt none = ap (λ (z : Manager). bytes_eq key z.key) e ∙ (not_first (bytes_eq key y.key) n (number_from (n + 1) l key) none).0
not_there n (y ∷ l) (suc j) m key e lt none = not_there (n + 1) l j m key e (omega (arith, lt)) (not_first (bytes_eq key y.key) n (number_from (n + 1) l key) none).1

free_behind : (b : Bool) (n j : ℕ) (o : Option ℕ) → IfSome (cond b (Some n) o) (λ owner. owner ≡ n + suc j) → (b ≡ false) × IfSome o (λ owner. owner ≡ (n + 1) + j)
free_behind true n j o is = absurd (omega (arith, is))
free_behind false n j None is = (refl, tt)
free_behind false n j (Some x) is = (refl, omega (arith, is))

module _ (k name : List ℕ) where
  -- a key's number once one of the managers has this key: his old one is nobody's
  number_rekeyed : (n : ℕ) (l : List Manager) (j : ℕ) (m : Manager) (key : List ℕ) → m ≡ get_or l j m → j < length l → AreApart l → IfSome (number_from n l k) (λ owner. owner ≡ n + j)
      → number_from n (set l j (with_key k name m)) key ≡ cond (bytes_eq key k) (Some (n + j)) (cond (bytes_eq key m.key) None (number_from n l key))
  number_rekeyed n [] j m key e lt apart free = absurd (omega arith)
  number_rekeyed n (y ∷ l) zero m key e lt apart free = here (bytes_eq key k) (bytes_eq key y.key) refl ∙ ap (λ (z : Manager). cond (bytes_eq key k) (Some (n + 0)) (cond (bytes_eq key z.key) None (number_from n (y ∷ l) key))) (sym e)
    where
      same : n + 0 ≡ n
      same = omega arith

      here : (a b : Bool) → bytes_eq key y.key ≡ b → cond a (Some n) (number_from (n + 1) l key) ≡ cond a (Some (n + 0)) (cond b None (cond b (Some n) (number_from (n + 1) l key)))
      here true b is = ap Some (sym same)
      here false true is = none_shift 1 (n + 1) l key (ap (number_from 1 l) (same_bytes key y.key is) ∙ apart.0)
      here false false is = refl
  number_rekeyed n (y ∷ l) (suc j) m key e lt apart free =
      ap (λ o. cond (bytes_eq key y.key) (Some n) o) (number_rekeyed (n + 1) l j m key e (omega (arith, lt)) apart.1 behind.1)
      ∙ there (bytes_eq key y.key) (bytes_eq key k) (bytes_eq key m.key) refl refl refl
    where
      behind : (bytes_eq k y.key ≡ false) × IfSome (number_from (n + 1) l k) (λ owner. owner ≡ (n + 1) + j)
      behind = free_behind (bytes_eq k y.key) n j (number_from (n + 1) l k) free

      place : (n + 1) + j ≡ n + suc j
      place = omega arith

      others : bytes_eq y.key m.key ≡ false
      others = not_there 1 l j m y.key e (omega (arith, lt)) apart.0

      not_new : bytes_eq key y.key ≡ true → bytes_eq key k ≡ true → ⊥
      not_new a b = false≢true (sym behind.0 ∙ ap (λ t. bytes_eq t y.key) (sym (same_bytes key k b)) ∙ a)

      not_old : bytes_eq key y.key ≡ true → bytes_eq key m.key ≡ true → ⊥
      not_old a b = false≢true (sym others ∙ ap (λ t. bytes_eq t m.key) (sym (same_bytes key y.key a)) ∙ b)

      there : (a b c : Bool) → bytes_eq key y.key ≡ a → bytes_eq key k ≡ b → bytes_eq key m.key ≡ c
          → cond a (Some n) (cond b (Some ((n + 1) + j)) (cond c None (number_from (n + 1) l key))) ≡ cond b (Some (n + suc j)) (cond c None (cond a (Some n) (number_from (n + 1) l key)))
      there true true c p q r = absurd (not_new p q)
      there true false true p q r = absurd (not_old p r)
      there true false false p q r = refl
      there false true c p q r = ap Some place
      there false false c p q r = refl

  apart_rekeyed : (n : ℕ) (l : List Manager) (j : ℕ) (m : Manager) → m ≡ get_or l j m → j < length l → AreApart l → IfSome (number_from n l k) (λ owner. owner ≡ n + j) → AreApart (set l j (with_key k name m))
  apart_rekeyed n [] j m e lt apart free = absurd (omega arith)
  apart_rekeyed n (y ∷ l) zero m e lt apart free = (here (bytes_eq k y.key) (number_from (n + 1) l k) refl refl free, apart.1)
    where
      here : (b : Bool) (o : Option ℕ) → bytes_eq k y.key ≡ b → number_from (n + 1) l k ≡ o → IfSome (cond b (Some n) o) (λ owner. owner ≡ n + 0) → number_from 1 l k ≡ None
      here true o is at free = ap (number_from 1 l) (same_bytes k y.key is) ∙ apart.0
      here false None is at free = none_shift (n + 1) 1 l k at
      here false (Some x) is at free = let le : n + 1 ≤ x = number_least (n + 1) l k x at in absurd (omega (arith, le, free))
  apart_rekeyed n (y ∷ l) (suc j) m e lt apart free = (
    number_rekeyed 1 l j m y.key e (omega (arith, lt)) apart.1 (shifted (number_from (n + 1) l k) refl behind.1)
        ∙ ap (λ b. cond b (Some (1 + j)) (cond (bytes_eq y.key m.key) None (number_from 1 l y.key))) (nat_list_eq_equiv.symm y.key k ∙ behind.0)
        ∙ ap (λ b. cond b None (number_from 1 l y.key)) (not_there 1 l j m y.key e (omega (arith, lt)) apart.0)
        ∙ apart.0,
    apart_rekeyed (n + 1) l j m e (omega (arith, lt)) apart.1 behind.1,
  )
    where
      behind : (bytes_eq k y.key ≡ false) × IfSome (number_from (n + 1) l k) (λ owner. owner ≡ (n + 1) + j)
      behind = free_behind (bytes_eq k y.key) n j (number_from (n + 1) l k) free

      zero_more : (n + 1) + 0 ≡ n + 1
      zero_more = omega arith

      shifted : (o : Option ℕ) → number_from (n + 1) l k ≡ o → IfSome o (λ owner. owner ≡ (n + 1) + j) → IfSome (number_from 1 l k) (λ owner. owner ≡ 1 + j)
      shifted None at is = subst (λ o. IfSome o (λ owner. owner ≡ 1 + j)) (sym (none_shift (n + 1) 1 l k at)) tt
      shifted (Some x) at is = subst (λ o. IfSome o (λ owner. owner ≡ 1 + j)) (sym (number_moved n 0 l k x (ap (λ m. number_from m l k) zero_more ∙ at))) (omega (arith, is, number_least (n + 1) l k x at))

-- the numbers go on with the managers
pub indexed_set : (numbers : BTreeMap (Vec ℕ Global) ℕ) (ms : List Manager) (i : ℕ) (m : Manager) (s : List Row) (t : List (ℕ × Sale)) → IsIndexed numbers ms → i < length ms → m ≡ get_or ms i m → IsIndexed numbers (set ms i (record { key = m.key; name = m.name; season = s; sales = t }))
indexed_set numbers ms i m s t x lt e = record {
  few = (let n : length (set ms i (record { key = m.key; name = m.name; season = s; sales = t })) ≡ length ms = length-set ms i _ in let f : length ms ≤ 2048 = x.few in omega arith);
  apart = apart_set ms i m s t e x.apart;
  told = λ key. (x.told key ∙ sym (number_set_at 1 ms i m s t key e));
}

pub indexed_add : (old new : BTreeMap (Vec ℕ Global) ℕ) (ms : List Manager) (m : Manager) (k : Vec ℕ Global) (v : ℕ) → IsIndexed old ms → length ms < 2048 → number_from 1 ms m.key ≡ None → k.items ≡ m.key → v ≡ length ms + 1
    → new.entries ≡ insert_entry by_items old.entries k v → IsIndexed new (ms ++ m ∷ [])
indexed_add old new ms m k v x room fresh same count e = record {
  few = (let n : length (ms ++ m ∷ []) ≡ length ms + 1 = length-append ms (m ∷ []) in omega arith);
  apart = apart_add ms m x.apart fresh;
  told = λ key. (ap (λ es. number_in es key) e ∙ number-insert old.entries k v key ∙ ap (λ l. cond (bytes_eq key l) (Some v) (number_in old.entries key)) same
      ∙ by_test key (bytes_eq key m.key) refl ∙ sym (number-push 1 ms m key));
}
  where
    whole : (o : Option ℕ) → o ≡ other_of o None
    whole None = refl
    whole (Some n) = refl

    by_test : (key : List ℕ) (b : Bool) → bytes_eq key m.key ≡ b → cond b (Some v) (number_in old.entries key) ≡ other_of (number_from 1 ms key) (cond b (Some (1 + length ms)) None)
    by_test key true t = let z : number_from 1 ms key ≡ None = ap (number_from 1 ms) (same_bytes key m.key t) ∙ fresh in let n : v ≡ 1 + length ms = omega arith in rw z (ap Some n)
    by_test key false t = x.told key ∙ whole (number_from 1 ms key)

-- so do they with another key
pub indexed_rekeyed : (old new : BTreeMap (Vec ℕ Global) ℕ) (ms : List Manager) (i : ℕ) (m : Manager) (k name : List ℕ) (v : ℕ) → IsIndexed old ms → i < length ms → m ≡ get_or ms i m → v ≡ 1 + i
    → IfSome (number_from 1 ms k) (λ owner. owner ≡ v) → ((key : List ℕ) → number_at new key ≡ cond (bytes_eq key k) (Some v) (cond (bytes_eq key m.key) None (number_at old key)))
    → IsIndexed new (set ms i (with_key k name m))
indexed_rekeyed old new ms i m k name v x lt e count free renumbered =
    let here : IfSome (number_from 1 ms k) (λ owner. owner ≡ 1 + i) = subst (λ w. IfSome (number_from 1 ms k) (λ owner. owner ≡ w)) count free in
    record {
      few = (let n : length (set ms i (with_key k name m)) ≡ length ms = length-set ms i _ in let f : length ms ≤ 2048 = x.few in omega arith);
      apart = apart_rekeyed k name 1 ms i m e lt x.apart here;
      told = λ key.
          renumbered key ∙ ap (λ o. cond (bytes_eq key k) (Some v) (cond (bytes_eq key m.key) None o)) (x.told key) ∙ ap (λ w. cond (bytes_eq key k) (Some w) (cond (bytes_eq key m.key) None (number_from 1 ms key))) count
          ∙ sym (number_rekeyed k name 1 ms i m key e lt x.apart here);
    }

-- the managers are those in which this one was changed
pub set_changed : (k name : List ℕ) (ms : List Manager) (i : ℕ) (m : Manager) → m ≡ get_or ms i m → set ms i (with_key k name m) ≡ changed_in (with_key k name) ms (suc i)
set_changed k name [] i m e = refl
set_changed k name (y ∷ ms) zero m e = ap (λ (z : Manager). with_key k name z ∷ ms) e
set_changed k name (y ∷ ms) (suc i) m e = ap (λ l. y ∷ l) (set_changed k name ms i m e)

-- one number more in the map
pub put_at_key : (old new : BTreeMap (Vec ℕ Global) ℕ) (k : Vec ℕ Global) (v : ℕ) (bytes key : List ℕ) → k.items ≡ bytes → new.entries ≡ insert_entry by_items old.entries k v
    → number_at new key ≡ cond (bytes_eq key bytes) (Some v) (number_at old key)
put_at_key old new k v bytes key same entries =
    ap (λ es. number_in es key) entries ∙ number-insert old.entries k v key ∙ ap (λ l. cond (bytes_eq key l) (Some v) (number_in old.entries key)) same

-- at the key that it had
pub number_stays : (v : ℕ) (old new key : List ℕ) (there : Option ℕ) → bytes_eq old new ≡ true → cond (bytes_eq key new) (Some v) there ≡ cond (bytes_eq key new) (Some v) (cond (bytes_eq key old) None there)
number_stays v old new key there same = by_test (bytes_eq key new) (bytes_eq key old) (ap (bytes_eq key) (same_bytes old new same))
  where
    by_test : (a b : Bool) → b ≡ a → cond a (Some v) there ≡ cond a (Some v) (cond b None there)
    by_test true b also = refl
    by_test false true also = cc
    by_test false false also = refl

-- and at another, from which it is taken
pub number_goes : (v : ℕ) (old new key : List ℕ) (there : Option ℕ) → bytes_eq old new ≡ false
    → cond (bytes_eq key old) None (cond (bytes_eq key new) (Some v) there) ≡ cond (bytes_eq key new) (Some v) (cond (bytes_eq key old) None there)
number_goes v old new key there other = by_tests (bytes_eq key old) (bytes_eq key new) refl refl
  where
    clash : bytes_eq key old ≡ true → bytes_eq key new ≡ true → ⊥
    clash a b = false≢true (sym other ∙ ap (λ l. bytes_eq l new) (sym (same_bytes key old a)) ∙ b)

    by_tests : (a b : Bool) → bytes_eq key old ≡ a → bytes_eq key new ≡ b → cond a None (cond b (Some v) there) ≡ cond b (Some v) (cond a None there)
    by_tests true true p q = absurd (clash p q)
    by_tests true false p q = refl
    by_tests false b p q = refl

-- a key that is taken out has no number, and the others have theirs
others_kept : (same : Vec ℕ Global → Vec ℕ Global → Bool) (out : Vec ℕ Global → Bool) (es fs : List (Vec ℕ Global × ℕ)) → KeepsOthers same out es fs
    → (other : Vec ℕ Global → Bool) → IsKeyTest same other → Differ out other → lookup other fs ≡ lookup other es
unfolding KeepsOthers
others_kept same out es fs kept = kept

pub number_taken : (m n : BTreeMap (Vec ℕ Global) ℕ) (old key : List ℕ) → UpdatesBy by_items (λ (k : Vec ℕ Global). slice_cmp nat_cmp old k.items) m n None → number_at n key ≡ cond (bytes_eq key old) None (number_at m key)
number_taken m n old key after = by_test (bytes_eq key old) refl
  where
    asked : Vec ℕ Global → Bool
    asked k = is_eq (slice_cmp nat_cmp key k.items)

    by_test : (b : Bool) → bytes_eq key old ≡ b → number_at n key ≡ cond b None (number_at m key)
    by_test true same = ap (number_at n) (same_bytes key old same) ∙ after.1
    by_test false other = others_kept (eq_by_cmp by_items) (λ (k : Vec ℕ Global). is_eq (slice_cmp nat_cmp old k.items)) m.entries n.entries after.3 asked
        (λ x y. (eq_by_cmp_equiv nat_list_cmp_total).congr key x.items y.items)
        (λ k at. is_eq-slice_cmp key k.items ∙ ap (bytes_eq key) (sym (same_bytes old k.items (sym (is_eq-slice_cmp old k.items) ∙ at))) ∙ other)

-- a map with the same entries has the same numbers
pub indexed_same : (old new : BTreeMap (Vec ℕ Global) ℕ) (ms : List Manager) → IsIndexed old ms → new.entries ≡ old.entries → IsIndexed new ms
indexed_same old new ms x same = record { few = x.few; apart = x.apart; told = λ key. ap (λ es. number_in es key) same ∙ x.told key }
