use Rattle.std.proofs.Common.{◌≡◌, ◌≤◌, ◌<◌, take}
use Rattle.fpl_reports.specs.Folder.{gameweeks_of}
use Rattle.fpl_reports.proofs.deadlines.gameweeks_of.Given as goal

abbrev pub invariant-loop-row : goal.invariant-loop-row
invariant-loop-row l = record {
  so_far : l.greatest ≡ gameweeks_of (take l.row-index l.rows);
  below : l.greatest ≤ 38;
  some : 0 < l.row-index → 1 ≤ l.greatest;
}
