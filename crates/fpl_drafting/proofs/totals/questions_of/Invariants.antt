use Rattle.std.proofs.Common.{◌≡◌}
use Rattle.std.specs.List.{flat_map}
use Rattle.fpl_drafting.specs.Totals.{asked_for, up_to}
use Rattle.fpl_drafting.proofs.totals.questions_of.Given as goal

abbrev pub invariant-loop-place : goal.invariant-loop-place
invariant-loop-place l = l.questions.items ≡ flat_map (asked_for l.draft l.locked) (up_to l.place)
