-- The replay value, and what sound cells have of it.
use Rattle.std.proofs.Common.{◌≡◌, ℕ, zero, suc, ◌<◌, ◌≤◌, Bool, true, false, List, [], ◌∷◌, ◌⊎◌, inl, inr, Option, Some, None, IsSome, refl, sym, ◌∙◌, ap, subst, arith}
use Rattle.rescore_graph.specs.declared.cells.Slot.{Slot}
use Rattle.rescore_graph.specs.Graph.{Among, Graph, IsGraph, replay_within, replay, Reach}
use Rattle.rescore_graph.specs.States.{State, is_dirty, values_in, IsDirty}
use Rattle.rescore_graph.specs.Settling.{Sound}

-- each has P, or one has Q
pub each_or : {N : Type 0} (P Q : N → Type 0) (xs : List N) → ((m : N) → Among xs m → P m ⊎ Q m) → ((m : N) → Among xs m → P m) ⊎ ((m : N) × (Among xs m × Q m))
each_or P Q [] h = inl (λ m a. absurd a)
each_or {N} P Q (x ∷ xs) h = first (h x (inl refl)) (each_or P Q xs (λ m a. h m (inr a)))
  where
    first : P x ⊎ Q x → ((m : N) → Among xs m → P m) ⊎ ((m : N) × (Among xs m × Q m)) → ((m : N) → Among (x ∷ xs) m → P m) ⊎ ((m : N) × (Among (x ∷ xs) m × Q m))
    first (inl p) (inl ps) = inl (λ m a. elim a as (λ _. P m) [ inl e ↦ subst P e p | inr b ↦ ps m b ])
    first (inl p) (inr q) = inr (q.0, (inr q.1.0, q.1.1))
    first (inr q) r = inr (x, (inl refl, q))

module _ {N V : Type 0} (g : Graph N V) (law : IsGraph g) where
  -- more depth gives no other value
  pub enough : (j k : ℕ) (n : N) → g.live n → g.level n < j → g.level n < k → replay_within g j n ≡ replay_within g k n
  enough zero k n l p q = absurd (omega arith)
  enough (suc j) zero n l p q = absurd (omega arith)
  enough (suc j) (suc k) n l p q = ap Some (law.local n l (replay_within g j) (replay_within g k) (λ m i.
      let h : g.level m < g.level n = law.inputs_lower n m l i in
      enough j k m (law.inputs_live n m l i) (omega arith) (omega arith)))

  -- the replay value is the node's own function of its inputs' replay values
  pub replay_is : (n : N) → g.live n → replay g n ≡ Some (g.own n (replay g))
  unfolding replay
  replay_is n l = ap Some (law.local n l (replay_within g (g.level n)) (replay g) (λ m i.
      let h : g.level m < g.level n = law.inputs_lower n m l i in
      enough (g.level n) (suc (g.level m)) m (law.inputs_live n m l i) h (omega arith)))

  module _ (s : State N V) (sound : Sound g s) where
    -- a clean node has its replay value where its inputs have theirs
    from_inputs : (n : N) → g.live n → is_dirty (s n) ≡ false → ((m : N) → Among (g.inputs n) m → values_in s m ≡ replay g m) → values_in s n ≡ replay g n
    from_inputs n l c h = sound.value n l c ∙ ap Some (law.local n l (values_in s) (replay g) h) ∙ sym (replay_is n l)

    -- below a level at which all are clean
    pub settled_below : (k : ℕ) → ((m : N) → g.live m → g.level m < k → is_dirty (s m) ≡ false) → (m : N) → g.live m → g.level m < k → values_in s m ≡ replay g m
    settled_below zero c m l p = absurd (omega arith)
    settled_below (suc k) c m l p = from_inputs m l (c m l p) (λ i a.
        let lower : g.level i < g.level m = law.inputs_lower m i l a in
        settled_below k (λ q lq pq. c q lq (omega arith)) i (law.inputs_live m i l a) (omega arith))

    by_inputs : (n : N) → g.live n → is_dirty (s n) ≡ false → ((m : N) → Among (g.inputs n) m → values_in s m ≡ replay g m) ⊎ ((m : N) × (Among (g.inputs n) m × Reach g (IsDirty s) m)) → (values_in s n ≡ replay g n) ⊎ Reach g (IsDirty s) n
    by_inputs n l c (inl h) = inl (from_inputs n l c h)
    by_inputs n l c (inr w) = inr (l, (suc w.1.1.1.0, (w.0, (w.1.0, w.1.1.1.1))))

    by_test : (n : N) → g.live n → ((m : N) → Among (g.inputs n) m → (values_in s m ≡ replay g m) ⊎ Reach g (IsDirty s) m) → (b : Bool) → is_dirty (s n) ≡ b → (values_in s n ≡ replay g n) ⊎ Reach g (IsDirty s) n
    by_test n l h true e = inr (l, (0, e))
    by_test n l h false e = by_inputs n l e (each_or (λ m. values_in s m ≡ replay g m) (Reach g (IsDirty s)) (g.inputs n) h)

    left_below : (k : ℕ) (n : N) → g.live n → g.level n < k → (values_in s n ≡ replay g n) ⊎ Reach g (IsDirty s) n
    left_below zero n l p = absurd (omega arith)
    left_below (suc k) n l p = by_test n l (λ m a.
        let lower : g.level m < g.level n = law.inputs_lower n m l a in
        left_below k m (law.inputs_live n m l a) (omega arith)) (is_dirty (s n)) refl

    -- a live node has its replay value, or is in reach of dirty ones
    pub rest : (n : N) → g.live n → (values_in s n ≡ replay g n) ⊎ Reach g (IsDirty s) n
    rest n l = left_below (suc (g.level n)) n l (omega arith)

    some_dirty : (o : Option (Slot V)) → is_dirty o ≡ true → IsSome o
    some_dirty None e = absurd (cc)
    some_dirty (Some c) e = refl

    -- the inputs of a dirty node of the least level have their replay values
    pub inputs_replayed : (n : N) → IsDirty s n → ((d : N) → IsDirty s d → g.level n ≤ g.level d) → (m : N) → Among (g.inputs n) m → values_in s m ≡ replay g m
    inputs_replayed n d least m a = settled_below (g.level n) clean m (law.inputs_live n m live a) (law.inputs_lower n m live a)
      where
        live : g.live n
        live = (sound.cells n).0 (some_dirty (s n) d)

        clean : (q : N) → g.live q → g.level q < g.level n → is_dirty (s q) ≡ false
        clean q l h = test (is_dirty (s q)) refl
          where
            test : (b : Bool) → is_dirty (s q) ≡ b → is_dirty (s q) ≡ false
            test false e = e
            test true e = let k : g.level n ≤ g.level q = least q e in absurd (omega arith)

module _ {N V : Type 0} (g : Graph N V) (law : IsGraph g) (f : N → Option V) (own : (n : N) → g.live n → f n ≡ Some (g.own n f)) where
  only_below : (k : ℕ) (n : N) → g.live n → g.level n < k → f n ≡ replay g n
  only_below zero n l p = absurd (omega arith)
  only_below (suc k) n l p = own n l ∙ ap Some (law.local n l f (replay g) (λ m a.
      let lower : g.level m < g.level n = law.inputs_lower n m l a in
      only_below k m (law.inputs_live n m l a) (omega arith))) ∙ sym (replay_is g law n l)

  -- what is each live node's own function of itself is the replay value
  pub replay_only : (n : N) → g.live n → f n ≡ replay g n
  replay_only n l = only_below (suc (g.level n)) n l (omega arith)
