use Rattle.std.proofs.Common.{◌<◌, ◌≤◌, ◌+◌, ◌-◌}
use Rattle.std.specs.List.{sum_by}
use Rattle.rescore_graph.specs.States.{look, IsDirty}
use Rattle.rescore_graph.specs.Settling.{Progress}
use Rattle.rescore_graph.specs.Work.{AreAll}
use Rattle.rescore_graph.proofs.cells.Cells.settle.Given as goal

-- no dirty node is of a lower level
abbrev pub invariant-levels : goal.invariant-levels
invariant-levels g l =
    let graph = g.R.Rules.graph l.rules in
    let cmp = g.N.Ord.cmp in
    record {
      progress : Progress graph (look cmp l.fn.self) (look cmp l.self) l.evaluated;
      all : AreAll (look cmp l.self) l.work;
      least : (d : g.row.N.Denot) → IsDirty (look cmp l.self) d → (l.level ≤ graph.level d) × (graph.level d < 256);
      most : l.level ≤ 256;
      cost : l.steps ≤ l.fn.steps + sum_by graph.weight l.evaluated;
    }

abbrev pub decreases-levels : goal.decreases-levels
decreases-levels g l = 256 - l.level
