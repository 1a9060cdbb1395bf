-- What making nodes dirty, and storing one value, do to cells.
use Rattle.std.proofs.Common.{◌≡◌, true, false, ◌⊎◌, inl, inr, ⊎_elim, Option, Some, None, is_some, refl, sym, ◌∙◌, ap}
use Rattle.rescore_graph.specs.declared.cells.Slot.{Slot}
use Rattle.rescore_graph.specs.Graph.{Graph, IsGraph}
use Rattle.rescore_graph.specs.States.{State, value_of, is_dirty, count_of, values_in, IsDirty, raise, bump, stored, Raised}
use Rattle.rescore_graph.specs.Settling.{Sound}

module _ {V : Type 0} where
  pub value_raise : (o : Option (Slot V)) → value_of (raise o) ≡ value_of o
  value_raise None = refl
  value_raise (Some c) = refl

  pub count_raise : (o : Option (Slot V)) → count_of (raise o) ≡ count_of o
  count_raise None = refl
  count_raise (Some c) = refl

  pub some_raise : (o : Option (Slot V)) → is_some (raise o) ≡ is_some o
  some_raise None = refl
  some_raise (Some c) = refl

  pub raise_raise : (o : Option (Slot V)) → raise (raise o) ≡ raise o
  raise_raise None = refl
  raise_raise (Some c) = refl

  -- what is clean after it was raised is not there
  pub raise_clean : (o : Option (Slot V)) → is_dirty (raise o) ≡ false → raise o ≡ o
  raise_clean None e = refl
  raise_clean (Some c) e = absurd (cc)

  pub raise_dirty : (o : Option (Slot V)) → is_some o ≡ true → is_dirty (raise o) ≡ true
  raise_dirty None e = absurd (cc)
  raise_dirty (Some c) e = refl

  pub dirty_some : (o : Option (Slot V)) → is_dirty o ≡ true → is_some o ≡ true
  dirty_some None e = absurd (cc)
  dirty_some (Some c) e = refl

  pub some_stored : (v : V) (o : Option (Slot V)) → is_some (stored v o) ≡ is_some o
  some_stored v None = refl
  some_stored v (Some c) = refl

  pub clean_stored : (v : V) (o : Option (Slot V)) → is_dirty (stored v o) ≡ false
  clean_stored v None = refl
  clean_stored v (Some c) = refl

  pub value_stored : (v : V) (o : Option (Slot V)) → is_some o ≡ true → value_of (stored v o) ≡ Some v
  value_stored v None e = absurd (cc)
  value_stored v (Some c) e = refl

  pub count_stored : (v : V) (o : Option (Slot V)) → is_some o ≡ true → count_of (stored v o) ≡ bump (count_of o)
  count_stored v None e = absurd (cc)
  count_stored v (Some c) e = refl

module _ {N V : Type 0} (P : N → Type 0) (s t : State N V) (r : Raised P s t) where
  pub raised_value : (q : N) → values_in t q ≡ values_in s q
  raised_value q = ⊎_elim (λ e. ap value_of e) (λ p. ap value_of p.1 ∙ value_raise (s q)) (r q)

  pub raised_count : (q : N) → count_of (t q) ≡ count_of (s q)
  raised_count q = ⊎_elim (λ e. ap count_of e) (λ p. ap count_of p.1 ∙ count_raise (s q)) (r q)

  pub raised_some : (q : N) → is_some (t q) ≡ is_some (s q)
  raised_some q = ⊎_elim (λ e. ap is_some e) (λ p. ap is_some p.1 ∙ some_raise (s q)) (r q)

  pub raised_clean : (q : N) → is_dirty (t q) ≡ false → t q ≡ s q
  raised_clean q c = ⊎_elim (λ e. e) (λ p. p.1 ∙ raise_clean (s q) (sym (ap is_dirty p.1) ∙ c)) (r q)

  pub raised_only : (q : N) → IsDirty t q → IsDirty s q ⊎ P q
  raised_only q d = ⊎_elim (λ e. inl (sym (ap is_dirty e) ∙ d)) (λ p. inr p.0) (r q)

  pub raised_keeps : (q : N) → IsDirty s q → IsDirty t q
  raised_keeps q d = ⊎_elim (λ e. ap is_dirty e ∙ d) (λ p. ap is_dirty p.1 ∙ raise_dirty (s q) (dirty_some (s q) d)) (r q)

  -- cells that some nodes were made dirty in are as sound as before
  pub raised_sound : (g : Graph N V) → IsGraph g → Sound g s → Sound g t
  raised_sound g law h = record {
    cells = λ n. ((λ y. (h.cells n).0 (sym (raised_some n) ∙ y)), (λ l. raised_some n ∙ (h.cells n).1 l));
    inputs = λ n m l c a. ap is_some (raised_value m) ∙ h.inputs n m l (sym (ap is_dirty (raised_clean n c)) ∙ c) a;
    value = λ n l c. raised_value n ∙ h.value n l (sym (ap is_dirty (raised_clean n c)) ∙ c) ∙ ap Some (law.local n l (values_in s) (values_in t) (λ m a. sym (raised_value m)));
  }

-- no node is made dirty
pub raised_none : {N V : Type 0} (P : N → Type 0) (s : State N V) → Raised P s s
raised_none P s q = inl refl

-- more are made dirty
pub raised_more : {N V : Type 0} (P : N → Type 0) (s t u : State N V) → Raised P s t → Raised P t u → Raised P s u
raised_more P s t u a b q = ⊎_elim (λ e. ⊎_elim (λ f. inl (e ∙ f)) (λ p. inr (p.0, e ∙ p.1)) (a q)) (λ p. inr (p.0, p.1 ∙ again (a q))) (b q)
  where
    again : (t q ≡ s q) ⊎ (P q × (t q ≡ raise (s q))) → raise (t q) ≡ raise (s q)
    again (inl f) = ap raise f
    again (inr p) = ap raise p.1 ∙ raise_raise (s q)
