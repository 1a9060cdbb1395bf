use Rattle.std.proofs.Common.{◌≡◌, ◌≤◌, ◌+◌, ◌-◌, ◌*◌, map, max}
use Rattle.std.specs.List.{range_with_len, sum}
use Rattle.rule_book.specs.HistoryTransfers.{swaps_in}
use Rattle.season_views.specs.Entries.{OfEachHistory}
use Rattle.entry_windows.proofs.summary.transfers_after.Given as goal

-- the transfers of the gameweeks behind the first are summed up so far
abbrev pub invariant-loop-passed : goal.invariant-loop-passed
invariant-loop-passed g l = record {
  value : OfEachHistory l.seen.facts l.seen.managers l.entry (λ h. l.transfers ≡ sum (map (swaps_in h) (range_with_len (l.fn.first + 1) (l.passed - l.fn.first))));
  few : l.transfers ≤ 65535 * l.passed;
  from : l.fn.first ≤ l.passed;
  to : l.passed ≤ max l.fn.first l.seen.facts.calendar.locked;
  cost : l.steps ≤ l.fn.steps + (l.passed - l.fn.first);
}
