use Rattle.fpl_drafting.specs.Totals.{AreTotals}
use Rattle.fpl_drafting.proofs.totals.totals_of.Given as goal

abbrev pub invariant-loop-place : goal.invariant-loop-place
invariant-loop-place l = AreTotals l.draft l.told l.locked l.place l.totals.items
