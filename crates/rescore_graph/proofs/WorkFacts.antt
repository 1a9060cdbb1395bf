-- The work list and its nodes by place, and cells under one write.
use Rattle.std.proofs.Common.{◌≡◌, ◌≢◌, ℕ, zero, suc, ◌+◌, ◌<◌, ◌≤◌, Bool, true, false, cond, not, ◌||◌, List, [], ◌∷◌, ◌++◌, ◌⊎◌, inl, inr, ⊎_elim, Option, refl, sym, ◌∙◌, ap, subst, arith, take, Ordering, Less, Equal, Greater, is_eq}
use Rattle.std.specs.Cmp.{IsTotalOrder, eq_by_cmp_equiv}
use Rattle.std.proofs.lemmas.Map.Lookups.{CmpEqualImpliesEq}
use Rattle.std.specs.List.{list_any}
use Rattle.std.proofs.Common.{length, get_or, length-append, append_assoc}
use Rattle.std.proofs.lemmas.List.{take_more}
use Rattle.std.specs.BTreeMap.{is_at}
use Rattle.rescore_graph.specs.declared.cells.Slot.{Slot}
use Rattle.rescore_graph.specs.Graph.{Among}
use Rattle.rescore_graph.specs.States.{State, is_dirty, IsDirty, raise, stored, Raised, Puts}
use Rattle.rescore_graph.specs.Work.{AreAll, IsFront}
use Rattle.rescore_graph.proofs.RaisedFacts.{clean_stored, raised_more}
use Rattle.rescore_graph.proofs.ProgressFacts.{among_last, among_more, among_push}

or_true : (a b : Bool) → (a || b) ≡ true → (a ≡ true) ⊎ (b ≡ true)
or_true true b h = inl refl
or_true false b h = inr h

-- one more element of a list was read
module _ {X : Type 0} (xs : List X) (i : ℕ) (x : X) (h : i < length xs) (is : x ≡ get_or xs i x) where
  pub taken : take (i + 1) xs ≡ take i xs ++ x ∷ []
  taken = take_more xs i x h ∙ ap (λ y. take i xs ++ y ∷ []) (sym is)

  pub among_taken : (q : X) → Among (take (i + 1) xs) q → Among (take i xs) q ⊎ (x ≡ q)
  among_taken q a = among_push (take i xs) x q (subst (λ ys. Among ys q) taken a)

pub among_get : {X : Type 0} (xs : List X) (i : ℕ) (x : X) → i < length xs → x ≡ get_or xs i x → Among xs x
among_get [] i x h is = absurd (omega arith)
among_get (y ∷ ys) zero x h is = inl (sym is)
among_get (y ∷ ys) (suc i) x h is = inr (among_get ys i x (omega arith) is)

pub front_length : {X : Type 0} (xs ys : List X) → IsFront xs ys → length xs ≤ length ys
front_length xs ys f = let e : length ys ≡ length (xs ++ f.0) = ap length f.1 in
    let h : length (xs ++ f.0) ≡ length xs + length f.0 = length-append xs f.0 in omega arith

pub front_more : {X : Type 0} (xs ys zs : List X) → IsFront xs ys → IsFront ys zs → IsFront xs zs
front_more xs ys zs f h = (f.0 ++ h.0, h.1 ∙ ap (λ l. l ++ h.0) f.1 ∙ append_assoc xs f.0 h.0)

equal_true : (o : Ordering) → is_eq o ≡ true → o ≡ Equal
equal_true Less e = absurd (cc)
equal_true Equal e = refl
equal_true Greater e = absurd (cc)

-- a write at a test
cond_here : {B : Type 0} (b : Bool) (x y z : B) → z ≡ cond b x y → b ≡ true → z ≡ x
cond_here true x y z h e = h
cond_here false x y z h e = absurd (cc)

cond_there : {B : Type 0} (b : Bool) (x y z : B) → z ≡ cond b x y → b ≡ false → z ≡ y
cond_there true x y z h e = absurd (cc)
cond_there false x y z h e = h

module _ {N : Type 0} (cmp : N → N → Ordering) (total : IsTotalOrder cmp) (exact : CmpEqualImpliesEq cmp) where
  pub at_self : (n : N) → is_at (cmp n) n ≡ true
  at_self n = (eq_by_cmp_equiv total).refl n

  pub at_exact : (n q : N) → is_at (cmp n) q ≡ true → n ≡ q
  at_exact n q e = exact n q (equal_true (cmp n q) e)

  pub any_among : (xs : List N) (n : N) → list_any (is_at (cmp n)) xs ≡ true → Among xs n
  any_among [] n e = absurd (cc)
  any_among (x ∷ xs) n e = ⊎_elim (λ h. inl (sym (at_exact n x h))) (λ h. inr (any_among xs n h)) (or_true (is_at (cmp n) x) (list_any (is_at (cmp n)) xs) e)

  pub at_apart : (n q : N) → n ≢ q → is_at (cmp n) q ≡ false
  at_apart n q ne = test (is_at (cmp n) q) refl
    where
      test : (b : Bool) → is_at (cmp n) q ≡ b → is_at (cmp n) q ≡ false
      test true e = absurd (ne (at_exact n q e))
      test false e = e

  pub apart : (n q : N) → (n ≡ q) ⊎ (n ≢ q)
  apart n q = test (is_at (cmp n) q) refl
    where
      test : (b : Bool) → is_at (cmp n) q ≡ b → (n ≡ q) ⊎ (n ≢ q)
      test true e = inl (at_exact n q e)
      test false e = inr (λ i. clash (subst (λ x. is_at (cmp n) x ≡ true) i (at_self n)) e)
        where
          clash : is_at (cmp n) q ≡ true → is_at (cmp n) q ≡ false → ⊥
          clash a b = cc

module _ {N : Type 0} (cmp : N → N → Ordering) (total : IsTotalOrder cmp) (exact : CmpEqualImpliesEq cmp) where
  module _ {V : Type 0} (n : N) (s t : State N V) (w : Option (Slot V)) (puts : Puts cmp s t n w) where
    pub put_here : t n ≡ w
    put_here = cond_here (is_at (cmp n) n) w (s n) (t n) (puts n) (at_self cmp total exact n)

    pub put_others : (q : N) → n ≢ q → t q ≡ s q
    put_others q ne = cond_there (is_at (cmp n) q) w (s q) (t q) (puts q) (at_apart cmp total exact n q ne)

  -- a node made dirty
  pub puts_raised : {V : Type 0} (n : N) (s t : State N V) → Puts cmp s t n (raise (s n)) → Raised (λ q. n ≡ q) s t
  puts_raised n s t puts q = ⊎_elim (λ i. inr (i, subst (λ x. t x ≡ raise (s x)) i (put_here n s t (raise (s n)) puts))) (λ ne. inl (put_others n s t (raise (s n)) puts q ne)) (apart cmp total exact n q)

  -- a list on which each dirty node is listed
  pub all_listed : {V : Type 0} (s : State N V) (xs : List N) → ((n : N) → IsDirty s n → list_any (is_at (cmp n)) xs ≡ true) → AreAll s xs
  all_listed s xs listed n d = any_among cmp total exact xs n (listed n d)

  -- a node made dirty, which goes on the list where it was clean
  module _ {V : Type 0} (n : N) (s t : State N V) (puts : Puts cmp s t n (raise (s n))) (xs : List N) (all : AreAll s xs) where
    pub all_pushed : (ys : List N) → ys ≡ xs ++ n ∷ [] → AreAll t ys
    all_pushed ys e q d = subst (λ l. Among l q) (sym e) (⊎_elim (λ i. subst (Among (xs ++ n ∷ [])) i (among_last xs n))
        (λ ne. among_more xs n q (all q (sym (ap is_dirty (put_others n s t (raise (s n)) puts q ne)) ∙ d))) (apart cmp total exact n q))

    pub all_kept : is_dirty (s n) ≡ true → AreAll t xs
    all_kept was q d = ⊎_elim (λ i. all q (subst (IsDirty s) i was))
        (λ ne. all q (sym (ap is_dirty (put_others n s t (raise (s n)) puts q ne)) ∙ d)) (apart cmp total exact n q)

  -- a value stored leaves no node more dirty
  pub all_stored : {V : Type 0} (n : N) (v : V) (s t : State N V) → Puts cmp s t n (stored v (s n)) → (xs : List N) → AreAll s xs → AreAll t xs
  all_stored n v s t puts xs all q d = ⊎_elim
      (λ i. absurd (clash (subst (IsDirty t) (sym i) d) (ap is_dirty (put_here n s t (stored v (s n)) puts) ∙ clean_stored v (s n))))
      (λ ne. all q (sym (ap is_dirty (put_others n s t (stored v (s n)) puts q ne)) ∙ d)) (apart cmp total exact n q)
    where
      clash : {b : Bool} → b ≡ true → b ≡ false → ⊥
      clash a b = cc

-- one of the nodes was made dirty, after others of them
pub mark_more : {N V : Type 0} (ns : List N) (n : N) → Among ns n → (s t u : State N V) → Raised (Among ns) s t → Raised (λ q. n ≡ q) t u → Raised (Among ns) s u
mark_more ns n k s t u a b = raised_more (Among ns) s t u a (λ q. ⊎_elim inl (λ p. inr (subst (Among ns) p.0 k, p.1)) (b q))

-- a node that was not clean was dirty
pub was_dirty : (dirty clean : Bool) → clean ≡ not dirty → clean ≡ false → dirty ≡ true
was_dirty true clean e f = refl
was_dirty false clean e f = absurd (cc)
