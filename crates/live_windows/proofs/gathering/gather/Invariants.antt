use Rattle.std.proofs.Common.{◌≡◌, ◌≤◌, ◌+◌, All, sum_by, take}
use Rattle.std.specs.List.{flat_map}
use Rattle.rule_book.specs.Calendar.{standing}
use Rattle.rule_book.specs.Figures.{IsLine}
use Rattle.live_windows.specs.declared.sums.LiveLine.{LiveLine}
use Rattle.live_windows.specs.Gathered.{sheet_lines, sheet_reads}
use Rattle.live_windows.proofs.gathering.gather.Given as goal

-- the lines of the fixtures so far, and what was read
abbrev pub invariant-loop-fixture : goal.invariant-loop-fixture
invariant-loop-fixture g l = record {
  value : l.lines.items ≡ flat_map (sheet_lines l.seen.facts) (take l.fixture-index (standing l.seen.facts.calendar l.fn.gameweek));
  ranges : All (λ (own : LiveLine). IsLine own.line) l.lines.items;
  cost : l.steps ≤ l.fn.steps + sum_by (sheet_reads l.seen.facts) (take l.fixture-index (standing l.seen.facts.calendar l.fn.gameweek));
}
