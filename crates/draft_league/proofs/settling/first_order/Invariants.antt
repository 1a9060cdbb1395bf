use Rattle.std.proofs.Common.{◌≡◌, ◌++◌, ◌-◌}
use Rattle.draft_league.specs.Waivers.{first_order}
use Rattle.draft_league.proofs.settling.first_order.Given as goal

abbrev pub invariant-loop-place : goal.invariant-loop-place
invariant-loop-place l = l.order.items ++ first_order (l.members - l.place) ≡ first_order l.members
