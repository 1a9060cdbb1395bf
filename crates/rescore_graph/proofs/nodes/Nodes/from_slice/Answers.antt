use Rattle.std.proofs.Common.{◌∙◌, sym, ap, ◌++◌, ◌∷◌, [], take_all}
use Rattle.rescore_graph.proofs.WorkFacts.{taken}
use Rattle.rescore_graph.proofs.nodes.Nodes.from_slice.Goals as goal

pub loop-n-preserved : goal.loop-n-preserved
loop-n-preserved g c = c.in_ok-push.ensures.ok ∙ ap (λ xs. xs ++ c.n-item.result ∷ []) c.loop-n.invariant
    ∙ sym (taken c.args.nodes.now c.loop-n.n-index c.n-item.result c.loop-n-test.true c.n-item.is)

pub returns : goal.returns
returns g c = c.loop-n.invariant ∙ take_all c.loop-n.n-index c.args.nodes.now c.loop-n-test.false
