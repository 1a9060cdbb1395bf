use Rattle.std.proofs.Common.{◌≡◌, ◌≤◌, ◌+◌, length}
use Rattle.std.specs.List.{sum_by}
use Rattle.rescore_graph.specs.States.{look, State, IsDirty}
use Rattle.rescore_graph.specs.Settling.{Sound, Progress}
use Rattle.rescore_graph.specs.Work.{AreAll}
use Rattle.rescore_graph.proofs.LevelFacts.{StandsFrom}
use Rattle.rescore_graph.proofs.cells.Cells.settle_level.Given as goal

-- what is left of this level stands at a later place
abbrev pub invariant-places : goal.invariant-places
invariant-places g l =
    let graph = g.R.Rules.graph l.rules in
    let cmp = g.N.Ord.cmp in
    record {
      on : (s : State g.row.N.Denot g.row.V.Denot) → Progress graph s (look cmp l.fn.self) l.fn.evaluated → Progress graph s (look cmp l.self) l.evaluated;
      sound : Sound graph (look cmp l.self);
      all : AreAll (look cmp l.self) l.work;
      least : (d : g.row.N.Denot) → IsDirty (look cmp l.self) d → l.level ≤ graph.level d;
      size : l.end ≤ length l.work;
      rest : (d : g.row.N.Denot) → IsDirty (look cmp l.self) d → graph.level d ≡ l.level → StandsFrom l.work l.place l.end d;
      cost : l.steps + sum_by graph.weight l.fn.evaluated ≤ l.fn.steps + sum_by graph.weight l.evaluated;
    }
