-- What holds after settling, at its end and where memory runs out.
use Rattle.std.proofs.Common.{◌≡◌, ◌≢◌, suc, true, List, [], ◌∷◌, ◌⊎◌, inl, inr, ⊎_elim, Option, Some, None, refl, ◌∙◌, ap}
use Rattle.rescore_graph.specs.declared.cells.Slot.{Slot}
use Rattle.rescore_graph.specs.Graph.{Among, Graph, IsGraph, Reach, DependsOn}
use Rattle.rescore_graph.specs.States.{State, is_dirty, count_of, IsDirty, raise, bump, Raised}
use Rattle.rescore_graph.specs.Settling.{Progress, Remains}
use Rattle.rescore_graph.proofs.RaisedFacts.{count_raise, raised_count, raised_none, raised_sound}
use Rattle.rescore_graph.proofs.ReplayFacts.{rest}

-- an element is among the list, or not
among_or : {N : Type 0} → ((n q : N) → (n ≡ q) ⊎ (n ≢ q)) → (xs : List N) (q : N) → Among xs q ⊎ (¬ Among xs q)
among_or apart [] q = inr (λ a. a)
among_or {N} apart (x ∷ xs) q = first (apart x q) (among_or apart xs q)
  where
    first : (x ≡ q) ⊎ (x ≢ q) → Among xs q ⊎ (¬ Among xs q) → Among (x ∷ xs) q ⊎ (¬ Among (x ∷ xs) q)
    first (inl i) r = inl (inl i)
    first (inr ne) (inl a) = inl (inr a)
    first (inr ne) (inr b) = inr (λ a. ⊎_elim ne b a)

-- a cell that was made dirty is dirty, or is not there
raised_or : {V : Type 0} (o : Option (Slot V)) → (is_dirty (raise o) ≡ true) ⊎ (raise o ≡ o)
raised_or None = inr refl
raised_or (Some c) = inl refl

module _ {N V : Type 0} (g : Graph N V) (law : IsGraph g) (apart : (n q : N) → (n ≡ q) ⊎ (n ≢ q)) (s t : State N V) (done : List N) (p : Progress g s t done) where
  module _ (P : N → Type 0) (near : (q : N) → P q → Reach g (IsDirty s) q) (u : State N V) (raised : Raised P t u) where
    -- a node that was not evaluated, and does not depend on what was dirty
    as_before : (q : N) → (¬ Reach g (IsDirty s) q) → t q ≡ s q
    as_before q far = ⊎_elim (λ i. i)
        (λ i. ⊎_elim (λ d. absurd (far (p.reached q (inl (ap is_dirty i ∙ d))))) (λ e. i ∙ e) (raised_or (s q)))
        (p.stay q (λ a. far (p.reached q (inr a))))

    counts_before : (q : N) → (count_of (t q) ≡ count_of (s q)) ⊎ (count_of (t q) ≡ bump (count_of (s q)))
    counts_before q = ⊎_elim (λ a. inr (p.counts q a))
        (λ b. inl (⊎_elim (λ i. ap count_of i) (λ i. ap count_of i ∙ count_raise (s q)) (p.stay q b)))
        (among_or apart done q)

    -- after some nodes more were made dirty
    pub remains_raised : Remains g s u
    remains_raised = let sound = raised_sound P t u raised g law p.sound in record {
      sound = sound;
      rest = rest g law u sound;
      outside = λ q far. ⊎_elim (λ i. i ∙ as_before q far) (λ k. absurd (far (near q k.0))) (raised q);
      counts = λ q. ⊎_elim (λ i. inl (raised_count P t u raised q ∙ i)) (λ i. inr (raised_count P t u raised q ∙ i)) (counts_before q);
    }

  pub remains : Remains g s t
  remains = remains_raised (λ q. ⊥) (λ q k. absurd k) t (raised_none (λ q. ⊥) t)

  -- within the evaluation of n
  pub remains_within : (n : N) → IsDirty t n → (u : State N V) → Raised (DependsOn g n) t u → Remains g s u
  remains_within n d u raised = remains_raised (DependsOn g n)
      (λ q k. let r = p.reached n (inl d) in (k.0, (suc r.1.0, (n, (k.1, r.1.1))))) u raised
