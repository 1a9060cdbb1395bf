use Rattle.std.proofs.Common.{◌≡◌, map, take}
use Rattle.season_restoring.proofs.league_members.members_of.Given as goal

abbrev pub invariant-loop-row : goal.invariant-loop-row
invariant-loop-row l = l.ids.items ≡ map (λ row. row.0.b) (take l.row-index l.rows)
