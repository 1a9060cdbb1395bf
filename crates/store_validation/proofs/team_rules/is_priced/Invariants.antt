use Rattle.std.proofs.Common.{◌≡◌, drop}
use Rattle.store_validation.specs.TeamRules.{is_priced}
use Rattle.store_validation.proofs.team_rules.is_priced.Given as goal

abbrev pub invariant-picks : goal.invariant-picks
invariant-picks l = is_priced (drop l.pick-index l.picks) ≡ is_priced l.picks
