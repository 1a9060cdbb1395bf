-- What a change evaluates, from what it marks and from what settling does.
use Rattle.std.proofs.Common.{◌≡◌, ◌⊎◌, inl, inr, ⊎_elim, ◌≤◌, ◌+◌, ℕ, zero, suc, true, List, Option, None, Some, IsSome, ◌∙◌, ap}
use Rattle.std.specs.List.{sum_by}
use Rattle.rescore_graph.specs.declared.cells.Slot.{Slot}
use Rattle.rescore_graph.specs.Graph.{Among, Graph, ReachBy}
use Rattle.rescore_graph.specs.Settling.{Remains, Settles}
use Rattle.rescore_graph.specs.States.{IsDirty, State, bump, count_of, is_dirty, raise}
use Rattle.season_graph.specs.Changes.{IsTouched}
use Rattle.season_graph.specs.Evaluated.{IsEvaluated}
use Rattle.season_nodes.specs.Held.{SeasonRows, held}
use Rattle.season_nodes.specs.Season.{SeasonFacts, season_graph, weight_of}
use Rattle.season_nodes.specs.declared.nodes.Node.{Node}
use Rattle.season_nodes.specs.declared.nodes.Value.{Value}
use Rattle.season_cells.specs.Correcting.{AreRaised, IsCheap, IsCorrected, IsReached}

-- a cell that is raised keeps its count, and is dirty if it is there
same_count : {V : Type 0} (x y : Option (Slot V)) → (y ≡ x) ⊎ (y ≡ raise x) → count_of y ≡ count_of x
same_count x y (inl same) = ap count_of same
same_count None y (inr raised) = ap count_of raised
same_count (Some c) y (inr raised) = ap count_of raised

raised_dirty : {V : Type 0} (x y : Option (Slot V)) → IsSome x → y ≡ raise x → is_dirty y ≡ true
raised_dirty None y there raised = cc
raised_dirty (Some c) y there raised = ap is_dirty raised

-- what is reached from some nodes is reached from more
reach_more : {N V : Type 0} (g : Graph N V) (S T : N → Type 0) → ((n : N) → S n → T n) → (k : ℕ) (n : N) → ReachBy g S k n → ReachBy g T k n
reach_more g S T more zero n r = more n r
reach_more g S T more (suc k) n r = (r.0, (r.1.0, reach_more g S T more k r.0 r.1.1))

module _ (b d : SeasonFacts) (old new : SeasonRows) (m : State Node Value) (done : List Node)
    (evaluated : IsEvaluated b (held old)) (marked : AreRaised b d (held old) m) (settles : Settles (season_graph d) m (held new) done) where
  touched_dirty : (n : Node) → IsTouched b d n → IsDirty m n
  touched_dirty n = (marked.touched evaluated.sound evaluated.clean n).1

  dirty_touched : (n : Node) → IsDirty m n → IsTouched b d n
  dirty_touched n = (marked.touched evaluated.sound evaluated.clean n).0

  done_reached : (n : Node) → Among done n → IsReached b d n
  done_reached n a =
      let r = settles.reached n a in
      (r.0, (r.1.0, reach_more (season_graph d) (IsDirty m) (IsTouched b d) dirty_touched r.1.0 n r.1.1))

  touched_reached : (n : Node) → IsTouched b d n → IsReached b d n
  touched_reached n t = (t.0, (0, t))

  pub is_corrected : Remains (season_graph d) m (held new) → IsCorrected b d old new
  is_corrected remains = record {
    others = λ n stays unreached. ⊎_elim
        (λ same. settles.stay n (λ a. unreached (done_reached n a)) ∙ same)
        (λ raised. absurd (unreached (touched_reached n (dirty_touched n (raised_dirty (held old n) (m n) ((evaluated.cells n).1 stays.0) raised)))))
        (marked.raised n stays.1 ((evaluated.cells n).1 stays.0));
    touched = λ n was t. settles.counts n (settles.all_dirty n (touched_dirty n t)) ∙ ap bump (same_count (held old n) (m n) (marked.raised n t.0 ((evaluated.cells n).1 was)));
    once = λ n stays.
        let same = same_count (held old n) (m n) (marked.raised n stays.1 ((evaluated.cells n).1 stays.0)) in
        ⊎_elim (λ c. inl (c ∙ same)) (λ c. inr (c ∙ ap bump same)) (remains.counts n);
  }

  pub is_cheap : (before after : ℕ) → after ≤ before + sum_by weight_of done → IsCheap b d before after
  is_cheap before after cost = record { done = done; once = settles.once; reached = done_reached; cost = cost }
