use Rattle.std.proofs.Common.{◌≡◌, drop}
use Rattle.fpl_base.specs.Keeping.{map_of}
use Rattle.store_validation.specs.TeamRules.{has_players}
use Rattle.store_validation.proofs.team_rules.has_players.Given as goal

abbrev pub invariant-picks : goal.invariant-picks
invariant-picks l = has_players (map_of l.stored) (drop l.pick-index l.picks) ≡ has_players (map_of l.stored) l.picks
