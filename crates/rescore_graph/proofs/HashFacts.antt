-- A map by hash finds a node by `==`, which answers as `cmp` does. So what it says of the nodes that `==` finds holds of those that `cmp` finds.
use Rattle.std.proofs.Common.{◌≡◌, ℕ, Bool, false, cond, List, Option, Some, sym, ◌∙◌, ap, subst, Ordering, is_eq}
use Rattle.std.specs.Map.{lookup}
use Rattle.rescore_graph.specs.declared.cells.Slot.{Slot}
use Rattle.rescore_graph.specs.States.{look, bump, stored, Puts}

module _ {N V : Type 0} (cmp : N → N → Ordering) (eq : N → N → Bool) (same : (x y : N) → eq x y ≡ is_eq (cmp x y)) where
  pub found : (n : N) (es : List (N × Slot V)) → lookup (eq n) es ≡ look cmp es n
  found n es = λ i. lookup (λ q. same n q i) es

  pub puts : (n : N) (old new : List (N × Slot V)) (w : Option (Slot V)) → ((q : N) → lookup (eq q) new ≡ cond (eq n q) w (lookup (eq q) old)) → Puts cmp (look cmp old) (look cmp new) n w
  puts n old new w h q = subst (λ (e : N → N → Bool). lookup (e q) new ≡ cond (e n q) w (lookup (e q) old)) (λ i x y. same x y i) (h q)

  -- a cell was read, and written as a function of what was read
  pub rewrites : (f : Option (Slot V) → Option (Slot V)) (n : N) (old new : List (N × Slot V)) (s w : Slot V) → Some s ≡ lookup (eq n) old → f (Some s) ≡ Some w
      → ((q : N) → lookup (eq q) new ≡ cond (eq n q) (Some w) (lookup (eq q) old)) → Puts cmp (look cmp old) (look cmp new) n (f (look cmp old n))
  rewrites f n old new s w read write h = puts n old new (f (look cmp old n)) (λ q. h q ∙ ap (λ o. cond (eq n q) o (lookup (eq q) old)) (sym write ∙ ap f (read ∙ found n old)))

pub stored_some : {V : Type 0} (v : V) (s : Slot V) (k : ℕ) → k ≡ bump s.count → stored v (Some s) ≡ Some (record { value = Some v; count = k; dirty = false })
stored_some v s k e = ap (λ j. Some (record { value = Some v; count = j; dirty = false })) (sym e)
