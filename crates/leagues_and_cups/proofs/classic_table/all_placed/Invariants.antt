use Rattle.std.proofs.Common.{◌≡◌, ◌<◌, ◌≤◌, ◌^◌, map, take, All}
use Rattle.leagues_and_cups.specs.ClassicStanding.{placed_of_row}
use Rattle.leagues_and_cups.proofs.classic_table.all_placed.Given as goal

abbrev pub invariant-loop-row : goal.invariant-loop-row
invariant-loop-row l = record {
  each : l.placed.items ≡ map placed_of_row (take l.row-index l.rows);
  range : All (λ row. (1 ≤ row.0) × (row.0 < 2 ^ 32)) (take l.row-index l.rows);
}
