use Rattle.std.proofs.Common.{take}
use Rattle.rescore_graph.specs.Graph.{Among}
use Rattle.rescore_graph.specs.States.{look, IsDirty, Raised}
use Rattle.rescore_graph.specs.Work.{AreAll, IsFront}
use Rattle.rescore_graph.proofs.cells.Cells.mark_all.Given as goal

-- those so far are dirty
abbrev pub invariant-loop-n : goal.invariant-loop-n
invariant-loop-n g l = let cmp = g.N.Ord.cmp in record {
  raised : Raised (Among l.nodes) (look cmp l.fn.self) (look cmp l.self);
  work : AreAll (look cmp l.self) l.work;
  front : IsFront l.fn.work l.work;
  so_far : (q : g.row.N.Denot) → Among (take l.n-index l.nodes) q → IsDirty (look cmp l.self) q;
}
