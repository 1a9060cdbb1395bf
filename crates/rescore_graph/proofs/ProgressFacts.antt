-- One evaluation, and what it leaves true of all so far.
use Rattle.std.proofs.Common.{◌≡◌, ◌≢◌, suc, ◌<◌, ◌≤◌, Bool, true, false, List, [], ◌∷◌, ◌++◌, ◌⊎◌, inl, inr, ⊎_elim, Option, Some, None, IsSome, is_some, refl, sym, ◌∙◌, ap, subst, arith}
use Rattle.rescore_graph.specs.declared.cells.Slot.{Slot}
use Rattle.rescore_graph.specs.Graph.{Among, NoneTwice, Graph, IsGraph, Reach, DependsOn}
use Rattle.rescore_graph.specs.States.{State, value_of, is_dirty, count_of, values_in, IsDirty, raise, bump}
use Rattle.rescore_graph.specs.Settling.{Sound, HasNewInput, Settles, Progress, Evaluates, AreByLevel}
use Rattle.rescore_graph.proofs.RaisedFacts.{value_raise, count_raise, raise_clean, dirty_some, some_stored, clean_stored, value_stored, count_stored, raised_value, raised_count, raised_some, raised_clean, raised_only, raised_keeps}
use Rattle.rescore_graph.proofs.ReplayFacts.{each_or, settled_below}

pub among_push : {N : Type 0} (xs : List N) (n q : N) → Among (xs ++ n ∷ []) q → Among xs q ⊎ (n ≡ q)
among_push [] n q (inl e) = inr e
among_push [] n q (inr a) = absurd a
among_push (x ∷ xs) n q (inl e) = inl (inl e)
among_push (x ∷ xs) n q (inr a) = ⊎_elim (λ b. inl (inr b)) inr (among_push xs n q a)

pub among_more : {N : Type 0} (xs : List N) (n q : N) → Among xs q → Among (xs ++ n ∷ []) q
among_more [] n q a = absurd a
among_more (x ∷ xs) n q (inl e) = inl e
among_more (x ∷ xs) n q (inr a) = inr (among_more xs n q a)

pub among_last : {N : Type 0} (xs : List N) (n : N) → Among (xs ++ n ∷ []) n
among_last [] n = inl refl
among_last (x ∷ xs) n = inr (among_last xs n)

pub none_twice_push : {N : Type 0} (xs : List N) (n : N) → NoneTwice xs → (¬ Among xs n) → NoneTwice (xs ++ n ∷ [])
none_twice_push [] n h a = ((λ b. b), tt)
none_twice_push (x ∷ xs) n h a = ((λ b. ⊎_elim h.0 (λ e. a (inl (sym e))) (among_push xs n x b)), none_twice_push xs n h.1 (λ b. a (inr b)))

pub by_level_push : {N V : Type 0} (g : Graph N V) (xs : List N) (n : N) → AreByLevel g xs → ((q : N) → Among xs q → g.level q ≤ g.level n) → AreByLevel g (xs ++ n ∷ [])
by_level_push g [] n h k = ((λ m a. absurd a), tt)
by_level_push g (x ∷ xs) n h k = ((λ m a. ⊎_elim (h.0 m) (λ i. subst (λ y. g.level x ≤ g.level y) i (k x (inl refl))) (among_push xs n m a)), by_level_push g xs n h.1 (λ q a. k q (inr a)))

pub true_not_false : {b : Bool} → b ≡ true → b ≡ false → ⊥
true_not_false e f = cc

module _ {N V : Type 0} (g : Graph N V) (law : IsGraph g) (apart : (n q : N) → (n ≡ q) ⊎ (n ≢ q)) where
  module _ (n : N) (v : V) (t u w : State N V) (sound : Sound g t) (e : Evaluates g n v t u w) where
    live : g.live n
    live = (sound.cells n).0 (dirty_some (t n) e.dirty)

    here_in_u : is_some (u n) ≡ true
    here_in_u = raised_some (DependsOn g n) t u e.raised n ∙ dirty_some (t n) e.dirty

    value_here : values_in w n ≡ Some v
    value_here = ap value_of e.here ∙ value_stored v (u n) here_in_u

    value_there : (q : N) → n ≢ q → values_in w q ≡ values_in t q
    value_there q ne = ap value_of (e.others q ne) ∙ raised_value (DependsOn g n) t u e.raised q

    clean_here : is_dirty (w n) ≡ false
    clean_here = ap is_dirty e.here ∙ clean_stored v (u n)

    some_w : (q : N) → is_some (w q) ≡ is_some (t q)
    some_w q = ⊎_elim (λ i. subst (λ x. is_some (w x) ≡ is_some (t x)) i (ap is_some e.here ∙ some_stored v (u n) ∙ raised_some (DependsOn g n) t u e.raised n))
        (λ ne. ap is_some (e.others q ne) ∙ raised_some (DependsOn g n) t u e.raised q) (apart n q)

    -- an input of n is another node, and clean
    input_apart : (m : N) → Among (g.inputs n) m → n ≢ m
    input_apart m a i = let h : g.level m < g.level n = law.inputs_lower n m live a in
        let k : g.level n ≡ g.level m = ap g.level i in omega arith

    input_clean : (m : N) → Among (g.inputs n) m → is_dirty (t m) ≡ false
    input_clean m a = test (is_dirty (t m)) refl
      where
        test : (b : Bool) → is_dirty (t m) ≡ b → is_dirty (t m) ≡ false
        test false f = f
        test true f = let h : g.level m < g.level n = law.inputs_lower n m live a in
            let k : g.level n ≤ g.level m = e.least m f in absurd (omega arith)

    -- clean after, and not n: clean before
    clean_before : (q : N) → n ≢ q → is_dirty (w q) ≡ false → is_dirty (u q) ≡ false
    clean_before q ne c = sym (ap is_dirty (e.others q ne)) ∙ c

    still_clean : (q : N) → is_dirty (u q) ≡ false → is_dirty (t q) ≡ false
    still_clean q c = sym (ap is_dirty (raised_clean (DependsOn g n) t u e.raised q c)) ∙ c

    -- what a node that is clean after makes of its inputs did not change
    same_own : (q : N) → g.live q → is_dirty (u q) ≡ false → g.own q (values_in t) ≡ g.own q (values_in w)
    same_own q l c = ⊎_elim
        (λ far. law.local q l (values_in t) (values_in w) (λ m a. sym (value_there m (far m a))))
        (λ k. near (subst (Among (g.inputs q)) (sym k.1.1) k.1.0))
        (each_or (λ m. n ≢ m) (λ m. n ≡ m) (g.inputs q) (λ m a. ⊎_elim inr inl (apart n m)))
      where
        unchanged : values_in t n ≡ Some v → (m : N) → values_in t m ≡ values_in w m
        unchanged f m = ⊎_elim
            (λ i. subst (λ x. values_in t x ≡ values_in w x) i (f ∙ sym value_here))
            (λ ne. sym (value_there m ne)) (apart n m)

        near : Among (g.inputs q) n → g.own q (values_in t) ≡ g.own q (values_in w)
        near a = ⊎_elim
            (λ f. law.local q l (values_in t) (values_in w) (λ m b. unchanged f m))
            (λ p. ⊎_elim (λ d. absurd (true_not_false d c)) (λ k. k.1.1 (values_in t) (values_in w) k.1.0 value_here (λ m ne. sym (value_there m ne))) (p.1 q (l, a)))
            e.change

    pub evaluated_sound : Sound g w
    evaluated_sound = record {
      cells = λ q. ((λ y. (sound.cells q).0 (sym (some_w q) ∙ y)), (λ l. some_w q ∙ (sound.cells q).1 l));
      inputs = λ q m l c a. ⊎_elim
          (λ i. subst (λ x. IsSome (values_in w x)) i (ap is_some value_here))
          (λ ne. ap is_some (value_there m ne) ∙ has q m l c a) (apart n m);
      value = λ q l c. ⊎_elim
          (λ i. subst (λ x. values_in w x ≡ Some (g.own x (values_in w))) i
          (value_here ∙ ap Some (e.value ∙ law.local n live (values_in t) (values_in w) (λ m a. sym (value_there m (input_apart m a))))))
          (λ ne. value_there q ne ∙ sound.value q l (still_clean q (clean_before q ne c))
          ∙ ap Some (same_own q l (clean_before q ne c)))
          (apart n q);
    }
      where
        has : (q m : N) → g.live q → is_dirty (w q) ≡ false → Among (g.inputs q) m → IsSome (values_in t m)
        has q m l c a = ⊎_elim
            (λ i. let b : Among (g.inputs n) m = subst (λ x. Among (g.inputs x) m) (sym i) a in
            ap is_some (sound.value m (law.inputs_live n m live b) (input_clean m b)))
            (λ ne. sound.inputs q m l (still_clean q (clean_before q ne c)) a) (apart n q)

    -- dirty after: another node than n, dirty before or a dependent
    pub dirty_after : (q : N) → IsDirty w q → (n ≢ q) × (IsDirty t q ⊎ DependsOn g n q)
    dirty_after q d = (ne, raised_only (DependsOn g n) t u e.raised q (sym (ap is_dirty (e.others q ne)) ∙ d))
      where
        ne : n ≢ q
        ne i = true_not_false (subst (IsDirty w) (sym i) d) clean_here

    dirty_kept : (q : N) → n ≢ q → IsDirty t q → IsDirty w q
    dirty_kept q ne d = ap is_dirty (e.others q ne) ∙ raised_keeps (DependsOn g n) t u e.raised q d

    module _ (s : State N V) (done : List N) (p : Progress g s t done) where
      new_here : ¬ Among done n
      new_here a = true_not_false e.dirty (p.clean n a)

      done_apart : (q : N) → Among done q → n ≢ q
      done_apart q a i = new_here (subst (Among done) (sym i) a)

      -- the level of a node that is dirty after is not below n's
      level_after : (q : N) → IsDirty t q ⊎ DependsOn g n q → g.level n ≤ g.level q
      level_after q (inl d) = e.least q d
      level_after q (inr k) = let h : g.level n < g.level q = law.inputs_lower q n k.0 k.1 in omega arith

      value_at_start : values_in t n ≡ values_in s n
      value_at_start = ⊎_elim (λ i. ap value_of i) (λ i. ap value_of i ∙ value_raise (s n)) (p.stay n new_here)

      count_at_start : count_of (u n) ≡ count_of (s n)
      count_at_start = raised_count (DependsOn g n) t u e.raised n ∙ ⊎_elim (λ i. ap count_of i) (λ i. ap count_of i ∙ count_raise (s n)) (p.stay n new_here)

      -- an input that was new stays so
      new_stays : (q : N) → IsDirty s q ⊎ HasNewInput g s t done q → IsDirty s q ⊎ HasNewInput g s w (done ++ n ∷ []) q
      new_stays q (inl d) = inl d
      new_stays q (inr k) = inr (k.0, (k.1.0, among_more done n k.0 k.1.1, (λ i. k.1.2 (i ∙ value_there k.0 (done_apart k.0 k.1.1)))))

      -- a node that became dirty has n as its new input
      new_cause : (q : N) → IsDirty w q → n ≢ q → IsDirty t q ⊎ DependsOn g n q → IsDirty s q ⊎ HasNewInput g s w (done ++ n ∷ []) q
      new_cause q d ne (inl f) = new_stays q (p.cause q (inl f))
      new_cause q d ne (inr k) = ⊎_elim
          (λ f. new_stays q (p.cause q (inl (sym (ap is_dirty (e.calm f q)) ∙ sym (ap is_dirty (e.others q ne)) ∙ d))))
          (λ h. inr (n, (k.1, among_last done n, (λ i. h.0 (value_at_start ∙ i ∙ value_here))))) e.change

      cause_after : (q : N) → IsDirty w q ⊎ Among (done ++ n ∷ []) q → IsDirty s q ⊎ HasNewInput g s w (done ++ n ∷ []) q
      cause_after q (inl d) = let h = dirty_after q d in new_cause q d h.0 h.1
      cause_after q (inr a) = ⊎_elim (λ b. new_stays q (p.cause q (inr b))) (λ i. new_stays q (p.cause q (inl (subst (IsDirty t) i e.dirty)))) (among_push done n q a)

      reach_from : (q : N) → IsDirty t q ⊎ DependsOn g n q → Reach g (IsDirty s) q
      reach_from q (inl d) = p.reached q (inl d)
      reach_from q (inr k) = let r = p.reached n (inl e.dirty) in (k.0, (suc r.1.0, (n, (k.1, r.1.1))))

      reached_after : (q : N) → IsDirty w q ⊎ Among (done ++ n ∷ []) q → Reach g (IsDirty s) q
      reached_after q (inl d) = reach_from q (dirty_after q d).1
      reached_after q (inr a) = ⊎_elim (λ b. p.reached q (inr b)) (λ i. p.reached q (inl (subst (IsDirty t) i e.dirty))) (among_push done n q a)

      stay_raised : (q : N) → (t q ≡ s q) ⊎ (t q ≡ raise (s q)) → (u q ≡ t q) ⊎ (DependsOn g n q × (u q ≡ raise (t q))) → (u q ≡ s q) ⊎ (u q ≡ raise (s q))
      stay_raised q (inl a) (inl b) = inl (b ∙ a)
      stay_raised q (inr a) (inl b) = inr (b ∙ a)
      stay_raised q (inl a) (inr b) = inr (b.1 ∙ ap raise a)
      stay_raised q (inr a) (inr b) = inr (b.1 ∙ ap raise a ∙ again (s q))
        where
          again : (o : Option (Slot V)) → raise (raise o) ≡ raise o
          again None = refl
          again (Some c) = refl

      pub next : Progress g s w (done ++ n ∷ [])
      next = record {
        sound = evaluated_sound;
        once = none_twice_push done n p.once new_here;
        by_level = by_level_push g done n p.by_level (λ q a. p.behind q n a e.dirty);
        clean = λ q a. ⊎_elim (λ b. clean_done q b) (λ i. subst (λ x. is_dirty (w x) ≡ false) i clean_here) (among_push done n q a);
        behind = λ q d a f. let h = level_after d (dirty_after d f).1 in
            ⊎_elim (λ b. let k : g.level q ≤ g.level n = p.behind q n b e.dirty in omega arith) (λ i. subst (λ x. g.level x ≤ g.level d) i h) (among_push done n q a);
        kept = λ q d. ⊎_elim (λ f. ⊎_elim (λ i. inr (subst (Among (done ++ n ∷ [])) i (among_last done n))) (λ ne. inl (dirty_kept q ne f)) (apart n q)) (λ a. inr (among_more done n q a)) (p.kept q d);
        cause = cause_after;
        reached = reached_after;
        counts = λ q a. ⊎_elim (λ b. count_done q b) (λ i. subst (λ x. count_of (w x) ≡ bump (count_of (s x))) i (ap count_of e.here ∙ count_stored v (u n) here_in_u ∙ ap bump count_at_start)) (among_push done n q a);
        stay = λ q a. let ne : n ≢ q = λ i. a (subst (Among (done ++ n ∷ [])) i (among_last done n)) in
            ⊎_elim (λ i. inl (e.others q ne ∙ i)) (λ i. inr (e.others q ne ∙ i)) (stay_raised q (p.stay q (λ b. a (among_more done n q b))) (e.raised q));
      }
        where
          -- a node that was evaluated before is no dependent of n
          clean_done : (q : N) → Among done q → is_dirty (w q) ≡ false
          clean_done q b = test (is_dirty (w q)) refl
            where
              test : (x : Bool) → is_dirty (w q) ≡ x → is_dirty (w q) ≡ false
              test false f = f
              test true f = ⊎_elim (λ d. absurd (true_not_false d (p.clean q b)))
                  (λ k. let h : g.level n < g.level q = law.inputs_lower q n k.0 k.1 in let r : g.level q ≤ g.level n = p.behind q n b e.dirty in absurd (omega arith)) (dirty_after q f).1

          count_done : (q : N) → Among done q → count_of (w q) ≡ bump (count_of (s q))
          count_done q b = ap count_of (e.others q (done_apart q b)) ∙ raised_count (DependsOn g n) t u e.raised q ∙ p.counts q b

  pub begins : (s : State N V) → Sound g s → Progress g s s []
  begins s h = record {
    sound = h;
    once = tt;
    by_level = tt;
    clean = λ q a. absurd a;
    behind = λ q d a f. absurd a;
    kept = λ q d. inl d;
    cause = λ q. ⊎_elim inl (λ a. absurd a);
    reached = λ q. ⊎_elim (λ d. ((h.cells q).0 (dirty_some (s q) d), (0, d))) (λ a. absurd a);
    counts = λ q a. absurd a;
    stay = λ q a. inl refl;
  }

  pub ends : (s t : State N V) (done : List N) → Progress g s t done → ((q : N) → is_dirty (t q) ≡ false) → Settles g s t done
  ends s t done p c = record {
    clean = c;
    cells = p.sound.cells;
    replayed = λ n l. settled_below g law t p.sound (suc (g.level n)) (λ m k h. c m) n l (omega arith);
    once = p.once;
    by_level = p.by_level;
    all_dirty = λ n d. ⊎_elim (λ f. absurd (true_not_false f (c n))) (λ a. a) (p.kept n d);
    reached = λ n a. p.reached n (inr a);
    cause = λ n a. p.cause n (inr a);
    counts = p.counts;
    stay = λ n a. ⊎_elim (λ i. i) (λ i. i ∙ raise_clean (s n) (sym (ap is_dirty i) ∙ c n)) (p.stay n a);
  }
