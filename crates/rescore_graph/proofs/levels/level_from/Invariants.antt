use Rattle.std.proofs.Common.{◌<◌, ◌≤◌, ◌⊎◌, take}
use Rattle.rescore_graph.specs.Graph.{Among}
use Rattle.rescore_graph.proofs.levels.level_from.Given as goal

abbrev pub invariant-loop-n : goal.invariant-loop-n
invariant-loop-n g l =
    let graph = g.R.Rules.graph l.rules in
    record {
      above : l.fn.from ≤ l.least;
      most : l.least ≤ 256;
      seen : (q : g.row.N.Denot) → Among (take l.n-index l.work) q → graph.live q → (graph.level q < l.fn.from) ⊎ ((l.least ≤ graph.level q) × (graph.level q < 256));
    }
