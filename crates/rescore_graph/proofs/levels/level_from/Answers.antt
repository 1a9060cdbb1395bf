use Rattle.std.proofs.Common.{◌<◌, ◌≤◌, ◌+◌, ◌⊎◌, arith, inl, inr, take}
use Rattle.rescore_graph.specs.Graph.{Among}
use Rattle.rescore_graph.proofs.LevelFacts.{least_more}
use Rattle.rescore_graph.proofs.levels.level_from.Goals.{then-from-level+then-level-least, else-from-level, else-from-level-via-then-from-level+else-level-least, else-from-level-via-else-from-level}
use Rattle.rescore_graph.proofs.levels.level_from.Goals as goal

pub loop-n-preserved : goal.loop-n-preserved
loop-n-preserved g c =
    let graph = g.R.Rules.graph c.args.rules.now in
    let next = c.if-from-level.least in
    let more : next ≤ c.loop-n.least → (c.level.result < c.args.from) ⊎ (next ≤ c.level.result) → (q : g.row.N.Denot) → Among (take (c.loop-n.n-index + 1) c.args.work.now) q → graph.live q → (graph.level q < c.args.from) ⊎ ((next ≤ graph.level q) × (graph.level q < 256))
    = λ down here. least_more graph.live graph.level c.args.work.now c.loop-n.n-index c.n-item.result c.loop-n-test.true c.n-item.is
    c.args.from c.loop-n.least next c.level.result down here (omega arith) (c.level.ensures c.requires.order) c.loop-n.invariant.seen in
    elim c.if-from-level.branch [
      | then-from-level+then-level-least w ↦ record { above = omega arith; most = omega arith; seen = more (omega arith) (inr (omega arith)) }
      | else-from-level w ↦ elim w.else-from-level.branch [
        | else-from-level-via-then-from-level+else-level-least v ↦ record { above = omega arith; most = omega arith; seen = more (omega arith) (inr (omega arith)) }
        | else-from-level-via-else-from-level v ↦ record { above = omega arith; most = omega arith; seen = more (omega arith) (inl (omega arith)) }
      ]
    ]
