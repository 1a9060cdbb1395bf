use Rattle.std.proofs.Common.{◌≡◌, ◌++◌, take}
use Rattle.fpl_reports.specs.Reports.{rows_text, slot_rows}
use Rattle.fpl_reports.proofs.entry_report.put_slots.Given as goal

abbrev pub invariant-loop-player : goal.invariant-loop-player
invariant-loop-player l = record {
  slot : l.slot ≡ l.player-index;
  put : l.longer ≡ l.fn.report ++ rows_text (slot_rows l.entry 1 (take l.player-index l.players));
}
