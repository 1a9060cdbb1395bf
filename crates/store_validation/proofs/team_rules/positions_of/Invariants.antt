use Rattle.std.proofs.Common.{◌≡◌, length, take}
use Rattle.fpl_base.specs.Keeping.{map_of}
use Rattle.store_validation.specs.TeamRules.{positions_told}
use Rattle.store_validation.proofs.team_rules.positions_of.Given as goal

abbrev pub invariant-loop-place : goal.invariant-loop-place
invariant-loop-place l =
    (length l.positions ≡ 15) × (take l.place l.positions ≡ positions_told (map_of l.stored) (take l.place l.picks))
