use Rattle.std.proofs.Common.{◌≡◌, ◌≤◌, ◌<◌, ◌+◌, ◌*◌, ℕ, get_or, length}
use Rattle.rule_book.specs.FigureRange.{IsWithin}
use Rattle.season_views.specs.Entries.{OfEachHistory}
use Rattle.entry_windows.specs.Courses.{ahead_by}
use Rattle.season_book.specs.EntryTotals.{total_through}
use Rattle.entry_windows.proofs.ranks.add_ahead.Given as goal

-- the places before this one are done, and those from it on are as they were
abbrev pub invariant-loop-passed : goal.invariant-loop-passed
invariant-loop-passed g l = record {
  done : OfEachHistory l.seen.facts l.seen.managers l.other
      (λ h. (place : ℕ) → place < l.passed → get_or l.ranks place 0 ≡ get_or l.fn.ranks place 0 + ahead_by l.seen.facts h l.course place);
  rest : (place : ℕ) → l.passed ≤ place → get_or l.ranks place 0 ≡ get_or l.fn.ranks place 0;
  total : OfEachHistory l.seen.facts l.seen.managers l.other (λ h. l.total ≡ total_through l.seen.facts h l.passed);
  near : IsWithin (18000000 * l.passed) l.total;
  few : (place : ℕ) → get_or l.ranks place 0 ≤ get_or l.fn.ranks place 0 + 1;
  long : length l.ranks ≡ length l.fn.ranks;
  cost : l.steps ≤ l.fn.steps + 2 * l.passed;
}
