use Rattle.std.proofs.Common.{◌≡◌, ◌++◌}
use Rattle.std.specs.List.{flat_map}
use Rattle.fpl_drafting.specs.Totals.{asked_at, up_to}
use Rattle.fpl_drafting.proofs.totals.ask_for.Given as goal

abbrev pub invariant-loop-place : goal.invariant-loop-place
invariant-loop-place l = l.questions.items ≡ l.fn.questions.items ++ flat_map (asked_at l.draft l.member) (up_to l.place)
