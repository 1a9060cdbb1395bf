use Rattle.std.proofs.Common.{rules, ◌≡◌, ℕ, ◌<◌, ◌≤◌, ◌+◌, ◌⊎◌, inl, inr, ◌∙◌, sym, ap, ⊎_elim, arith, subst, length, get_or}
use Rattle.rescore_graph.specs.States.{look, State}
use Rattle.rescore_graph.specs.Settling.{Progress, Remains}
use Rattle.rescore_graph.proofs.WorkFacts.{front_length}
use Rattle.rescore_graph.proofs.LevelFacts.{StandsFrom, stands_among, stands_front, stands_next, past_level}
use Rattle.rescore_graph.proofs.cells.Cells.settle_level.Goals as goal

pub places-init : goal.places-init
places-init g c = let long : length c.as_slice-end.result.now ≡ length c.args.work.now = ap length c.as_slice-end.ensures in record {
  on = λ s p. p;
  sound = c.requires.sound;
  all = c.requires.all;
  least = c.requires.least;
  size = omega arith;
  rest = λ d k e. subst (λ i. StandsFrom c.args.work.now 0 i d) (ap length (sym c.as_slice-end.ensures)) (stands_among c.args.work.now d (c.requires.all d k));
  cost = omega arith;
}

pub places-preserved : goal.places-preserved
places-preserved g c =
    let cmp = g.N.Ord.cmp in
    let graph = g.R.Rules.graph c.args.rules.now in
    let left = c.in_ok-settle_node.ensures.left in
    let n = c.index-as_slice-place.result in
    let is : n ≡ get_or c.places.work c.places.place n = c.index-as_slice-place.is ∙ ap (λ xs. get_or xs c.places.place n) c.as_slice.ensures in
    let long : length c.places.work ≤ length c.settle_node.new.work = front_length c.places.work c.settle_node.new.work c.settle_node.ensures.front in record {
      on = λ s p. c.in_ok-settle_node.ensures.on s (c.places.invariant.on s p);
      sound = c.in_ok-settle_node.ensures.sound;
      all = c.in_ok-settle_node.ensures.all;
      least = λ d k. low c.args.level (graph.level d) (left d k);
      size = omega arith;
      rest = λ d k e. let r = same c.args.level (graph.level d) e (left d k) in
          stands_front c.places.work c.settle_node.new.work (c.places.place + 1) (length c.as_slice-end.result.now) d c.places.invariant.size c.settle_node.ensures.front
          (⊎_elim (λ i. absurd (r.0 i)) (λ b. b) (stands_next c.places.work c.places.place (length c.as_slice-end.result.now) n d c.places.invariant.size is (c.places.invariant.rest d r.1 e)));
      cost = omega arith;
    }
  where
    low : {P Q : Type 0} (l m : ℕ) → (l < m) ⊎ ((l ≡ m) × P × Q) → l ≤ m
    low l m (inl h) = omega arith
    low l m (inr r) = let e : l ≡ m = r.0 in omega arith

    same : {P Q : Type 0} (l m : ℕ) → m ≡ l → (l < m) ⊎ ((l ≡ m) × P × Q) → P × Q
    same l m e (inl h) = absurd (omega arith)
    same l m e (inr r) = (r.1, r.2)

pub returns-clause-past : goal.returns-clause-past
returns-clause-past g c = λ d k. past_level c.places.work c.places.place (length c.as_slice-end.result.now) c.args.level ((g.R.Rules.graph c.args.rules.now).level d) d (omega arith)
    (c.places.invariant.least d k) (c.places.invariant.rest d k)

pub returns-in_err-settle_node-clause-remains : goal.returns-in_err-settle_node-clause-remains
returns-in_err-settle_node-clause-remains g c =
    let cmp = g.N.Ord.cmp in
    let graph = g.R.Rules.graph c.args.rules.now in
    let left : (s : State g.row.N.Denot g.row.V.Denot) → Progress graph s (look cmp c.args.self.now) c.args.evaluated.now → Remains graph s (look cmp c.settle_node.new.self)
    = λ s p. c.in_err-settle_node.ensures.remains s (c.places.invariant.on s p) in
    search rules
