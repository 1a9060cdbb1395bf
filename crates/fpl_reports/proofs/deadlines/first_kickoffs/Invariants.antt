use Rattle.std.proofs.Common.{◌≡◌, length, take}
use Rattle.fpl_reports.proofs.DeadlineFacts.{AreFirst, AreLate}
use Rattle.fpl_reports.proofs.deadlines.first_kickoffs.Given as goal

abbrev pub invariant-loop-row : goal.invariant-loop-row
invariant-loop-row l = record {
  size : length l.first ≡ 38;
  first : AreFirst l.first (take l.row-index l.rows);
  late : AreLate l.first;
}
