-- What keeps cells sound when the rules change.
use Rattle.std.proofs.Common.{◌≡◌, false, ◌↔◌, Option, Some, IsSome, is_some, sym, ◌∙◌, ap}
use Rattle.rescore_graph.specs.Graph.{Among, Graph, IsGraph}
use Rattle.rescore_graph.specs.States.{State, value_of, is_dirty, values_in}
use Rattle.rescore_graph.specs.Settling.{Sound, SoundBut}

-- a node that a change does not touch: it was live, and has its cell, its inputs and its own function
pub record Untouched {N V : Type 0} (g h : Graph N V) (s t : State N V) (q : N) : Type 0 where
  pub live : g.live q
  pub cell : t q ≡ s q
  pub inputs : (m : N) → Among (h.inputs q) m → Among (g.inputs q) m
  pub own : (f : N → Option V) → h.own q f ≡ g.own q f
  pub values : (m : N) → Among (g.inputs q) m → values_in t m ≡ values_in s m

-- After a change of the rules from g to h and of the cells from s to t, in which each node that is clean in the end was not touched.
pub sound_changed : {N V : Type 0} (g h : Graph N V) → IsGraph g → (s t : State N V) → Sound g s → ((q : N) → IsSome (t q) ↔ h.live q) → ((q : N) → h.live q → is_dirty (t q) ≡ false → Untouched g h s t q) → Sound h t
sound_changed g h law s t sound cells same = record {
  cells = cells;
  inputs = λ q m l c a. let u = same q l c in ap is_some (u.values m (u.inputs m a)) ∙ sound.inputs q m u.live (sym (ap is_dirty u.cell) ∙ c) (u.inputs m a);
  value = λ q l c. let u = same q l c in ap value_of u.cell ∙ sound.value q u.live (sym (ap is_dirty u.cell) ∙ c)
      ∙ ap Some (law.local q u.live (values_in s) (values_in t) (λ m a. sym (u.values m a)) ∙ sym (u.own (values_in t)));
}

-- The rules changed and the cells did not yet: all is sound but for what the change touches.
pub sound_start : {N V : Type 0} (g h : Graph N V) → IsGraph g → (X : N → Type 0) (s : State N V) → Sound g s → ((q : N) → (¬ X q) → g.live q ↔ h.live q) → ((q : N) → (¬ X q) → h.live q → Untouched g h s s q) → SoundBut h X s
sound_start g h law X s sound lives same = record {
  cells = λ q x. ((λ y. (lives q x).0 ((sound.cells q).0 y)), (λ l. (sound.cells q).1 ((lives q x).1 l)));
  inputs = λ q m x l c a. let u = same q x l in sound.inputs q m u.live c (u.inputs m a);
  value = λ q x l c. let u = same q x l in sound.value q u.live c ∙ ap Some (sym (u.own (values_in s)));
}

-- Cells of some nodes were planted, made dirty or taken out: fewer are left out.
pub sound_shrinks : {N V : Type 0} (h : Graph N V) → IsGraph h → (X Y : N → Type 0) (s t : State N V) → SoundBut h X s → ((q : N) → (¬ Y q) → IsSome (t q) ↔ h.live q)
    → ((q : N) → (¬ Y q) → h.live q → is_dirty (t q) ≡ false → (¬ X q) × (t q ≡ s q)) → ((q : N) → h.live q → IsSome (values_in s q) → values_in t q ≡ values_in s q) → SoundBut h Y t
sound_shrinks h law X Y s t sound cells same kept = record {
  cells = cells;
  inputs = λ q m y l c a. let o = same q y l c in let e = sound.inputs q m o.0 l (sym (ap is_dirty o.1) ∙ c) a in ap is_some (kept m (law.inputs_live q m l a) e) ∙ e;
  value = λ q y l c. let o = same q y l c in let d = sym (ap is_dirty o.1) ∙ c in
      ap value_of o.1 ∙ sound.value q o.0 l d ∙ ap Some (law.local q l (values_in s) (values_in t) (λ m a. sym (kept m (law.inputs_live q m l a) (sound.inputs q m o.0 l d a))));
}
