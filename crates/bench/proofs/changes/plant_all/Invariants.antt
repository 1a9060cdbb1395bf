use Rattle.std.proofs.Common.{nat_cmp}
use Rattle.rescore_graph.specs.States.{look}
use Rattle.bench.proofs.PlantFacts.{IsFilled}
use Rattle.bench.proofs.changes.plant_all.Given as goal

abbrev pub invariant-loop-i : goal.invariant-loop-i
invariant-loop-i l = IsFilled (look nat_cmp l.cells) l.i
