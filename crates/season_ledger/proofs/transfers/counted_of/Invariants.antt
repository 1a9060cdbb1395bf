use Rattle.std.proofs.Common.{◌≡◌, ◌<◌, ◌≤◌, ◌*◌, take, drop}
use Rattle.std.specs.List.{sum_by}
use Rattle.season_ledger.specs.Rows.{AllAbove, Rise}
use Rattle.season_ledger.proofs.Counting.{counted_row}
use Rattle.season_ledger.proofs.transfers.counted_of.Given as goal

abbrev pub invariant-loop-row : goal.invariant-loop-row
invariant-loop-row l = record {
  value : l.sum ≡ sum_by (counted_row l.first l.g) (take l.row-index l.rows);
  low : l.last ≤ 38;
  bound : l.sum ≤ 65535 * l.last;
  above : 0 < l.last → AllAbove l.last (drop l.row-index l.rows);
  rise : Rise (drop l.row-index l.rows);
}
