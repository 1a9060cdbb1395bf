use Rattle.std.proofs.Common.{◌≡◌, eqb, not, take}
use Rattle.std.specs.List.{filter}
use Rattle.draft_league.proofs.settling.to_end.Given as goal

abbrev pub invariant-loop-other : goal.invariant-loop-other
invariant-loop-other l = l.moved.items ≡ filter (λ other. not (eqb other l.member)) (take l.other-index l.order)
