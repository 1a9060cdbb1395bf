use Rattle.std.proofs.Common.{◌≡◌, ◌<◌, ◌+◌, ℕ, length, Some, get_or}
use Rattle.fpl_reports.specs.Folder.{first_kickoff}
use Rattle.fpl_reports.proofs.deadlines.deadlines_of.Given as goal

abbrev pub invariant-loop-place : goal.invariant-loop-place
invariant-loop-place l = record {
  count : length l.deadlines ≡ l.place;
  each : (k : ℕ) → k < l.place → first_kickoff l.rows (k + 1) ≡ Some (get_or l.deadlines k 0 + 5400);
}
