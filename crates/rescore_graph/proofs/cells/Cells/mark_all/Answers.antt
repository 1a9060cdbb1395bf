use Rattle.std.proofs.Common.{◌≡◌, ◌∙◌, ⊎_elim, subst}
use Rattle.rescore_graph.specs.Graph.{Among}
use Rattle.rescore_graph.specs.States.{look, IsDirty}
use Rattle.rescore_graph.proofs.RaisedFacts.{raised_keeps, raised_some}
use Rattle.rescore_graph.proofs.WorkFacts.{among_get, among_taken, front_more, mark_more}
use Rattle.rescore_graph.proofs.cells.Cells.mark_all.Goals as goal

pub mark_one-requires-clause-there : goal.mark_one-requires-clause-there
mark_one-requires-clause-there g c = let cmp = g.N.Ord.cmp in
    raised_some (Among c.args.nodes.now) (look cmp c.args.self.now) (look cmp c.loop-n.self) c.loop-n.invariant.raised c.n-item.result
    ∙ c.requires.there c.n-item.result (among_get c.args.nodes.now c.loop-n.n-index c.n-item.result c.loop-n-test.true c.n-item.is)

pub returns-in_err-mark_one-clause-raised : goal.returns-in_err-mark_one-clause-raised
returns-in_err-mark_one-clause-raised g c = let cmp = g.N.Ord.cmp in
    mark_more c.args.nodes.now c.n-item.result (among_get c.args.nodes.now c.loop-n.n-index c.n-item.result c.loop-n-test.true c.n-item.is)
    (look cmp c.args.self.now) (look cmp c.loop-n.self) (look cmp c.mark_one.new.self) c.loop-n.invariant.raised c.mark_one.ensures.raised

pub loop-n-preserved : goal.loop-n-preserved
loop-n-preserved g c = let cmp = g.N.Ord.cmp in record {
  raised = mark_more c.args.nodes.now c.n-item.result (among_get c.args.nodes.now c.loop-n.n-index c.n-item.result c.loop-n-test.true c.n-item.is)
      (look cmp c.args.self.now) (look cmp c.loop-n.self) (look cmp c.mark_one.new.self) c.loop-n.invariant.raised c.mark_one.ensures.raised;
  work = c.in_ok-mark_one.ensures.work;
  front = front_more c.args.work.now c.loop-n.work c.mark_one.new.work c.loop-n.invariant.front c.mark_one.ensures.front;
  so_far = λ q a. ⊎_elim
      (λ b. raised_keeps (λ x. c.n-item.result ≡ x) (look cmp c.loop-n.self) (look cmp c.mark_one.new.self) c.mark_one.ensures.raised q (c.loop-n.invariant.so_far q b))
      (λ i. subst (IsDirty (look cmp c.mark_one.new.self)) i c.in_ok-mark_one.ensures.dirty)
      (among_taken c.args.nodes.now c.loop-n.n-index c.n-item.result c.loop-n-test.true c.n-item.is q a);
}
