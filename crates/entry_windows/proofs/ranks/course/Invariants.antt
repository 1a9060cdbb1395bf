use Rattle.std.proofs.Common.{◌≡◌, ◌≤◌, ◌+◌, ◌*◌, length}
use Rattle.rule_book.specs.FigureRange.{IsWithin}
use Rattle.season_views.specs.Entries.{OfEachHistory}
use Rattle.entry_windows.specs.Courses.{IsCourse}
use Rattle.season_book.specs.EntryTotals.{total_through}
use Rattle.entry_windows.proofs.ranks.course.Given as goal

abbrev pub invariant-loop-passed : goal.invariant-loop-passed
invariant-loop-passed g l = record {
  value : OfEachHistory l.seen.facts l.seen.managers l.entry (λ h. IsCourse l.seen.facts h l.passed l.course);
  total : OfEachHistory l.seen.facts l.seen.managers l.entry (λ h. l.total ≡ total_through l.seen.facts h l.passed);
  near : IsWithin (18000000 * l.passed) l.total;
  totals : length l.course.totals ≡ 38;
  transfers : length l.course.transfers ≡ 38;
  cost : l.steps ≤ l.fn.steps + 2 * l.passed;
}
