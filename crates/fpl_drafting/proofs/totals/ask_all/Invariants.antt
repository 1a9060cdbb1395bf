use Rattle.std.proofs.Common.{◌≡◌, ◌++◌, map, take}
use Rattle.fpl_drafting.proofs.totals.ask_all.Given as goal

abbrev pub invariant-loop-one : goal.invariant-loop-one
invariant-loop-one l = l.questions.items ≡ l.fn.questions.items ++ map (λ one. (one.0, l.gw)) (take l.one-index l.squad)
