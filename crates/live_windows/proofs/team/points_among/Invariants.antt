use Rattle.std.proofs.Common.{◌≡◌, ◌==◌, drop}
use Rattle.std.specs.List.{find}
use Rattle.squad_rules.specs.Elevens.{Row}
use Rattle.live_windows.proofs.team.points_among.Given as goal

-- he has none of the rows so far
abbrev pub invariant-loop-row : goal.invariant-loop-row
invariant-loop-row l = find (λ (row : Row). row.0 == l.player) l.rows ≡ find (λ (row : Row). row.0 == l.player) (drop l.row-index l.rows)
