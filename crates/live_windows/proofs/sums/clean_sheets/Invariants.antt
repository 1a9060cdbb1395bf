use Rattle.std.proofs.Common.{◌≡◌, ◌≤◌, ◌*◌, sum_by, take}
use Rattle.live_windows.specs.declared.sums.LiveLine.{LiveLine}
use Rattle.season_book.specs.LineSums.{clean_sheets_of}
use Rattle.live_windows.proofs.sums.clean_sheets.Given as goal

abbrev pub invariant-loop-own : goal.invariant-loop-own
invariant-loop-own l = record {
  value : l.sum ≡ sum_by (λ (own : LiveLine). clean_sheets_of own.line) (take l.own-index l.lines);
  small : l.sum ≤ 1 * l.own-index;
}
