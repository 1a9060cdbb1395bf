use Rattle.std.proofs.Common.{◌≡◌, drop}
use Rattle.store_validation.specs.TeamRules.{is_distinct}
use Rattle.store_validation.proofs.team_rules.is_distinct.Given as goal

abbrev pub invariant-loop-place : goal.invariant-loop-place
invariant-loop-place l = is_distinct (drop l.place l.picks) ≡ is_distinct l.picks
