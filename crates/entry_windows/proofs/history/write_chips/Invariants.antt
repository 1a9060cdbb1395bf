use Rattle.std.proofs.Common.{◌≡◌, ◌≤◌, ◌+◌, ◌-◌, ◌++◌, Some, max}
use Rattle.std.specs.Prelude.{is_some}
use Rattle.std.specs.List.{filter, range_with_len}
use Rattle.json_members.specs.Tokens.{tokens_of}
use Rattle.json_members.proofs.ListLemmas.{rest_of}
use Rattle.rule_book.specs.History.{chip_at}
use Rattle.rule_book.specs.UpTo.{start_of}
use Rattle.season_book.specs.Windows.{listed}
use Rattle.season_views.specs.Entries.{OfEachHistory}
use Rattle.season_book.specs.ChipNames.{chip_name}
use Rattle.season_book.specs.HistoryWindow.{chip_row, chips_of}
use Rattle.entry_windows.proofs.history.write_chips.Given as goal

-- the tokens so far, and then those of the gameweeks that are left, are those of all
abbrev pub invariant-loop-passed : goal.invariant-loop-passed
invariant-loop-passed g l = record {
  tokens : OfEachHistory l.seen.facts l.seen.managers l.entry
      (λ h. start_of h ≡ Some l.fn.first
      → l.out.tokens ++ rest_of (chip_row h) (filter (λ k. is_some (chip_name (chip_at h k))) (range_with_len (l.passed + 1) (l.seen.facts.calendar.locked - l.passed)))
      ≡ l.fn.out.tokens ++ tokens_of (listed (chip_row h) (chips_of l.seen.facts h)));
  before : OfEachHistory l.seen.facts l.seen.managers l.entry (λ h. start_of h ≡ Some l.fn.first → l.out.before ≡ l.fn.out.before);
  from : l.fn.first - 1 ≤ l.passed;
  to : l.passed ≤ max (l.fn.first - 1) l.seen.facts.calendar.locked;
  cost : l.steps ≤ l.fn.steps + (l.passed - (l.fn.first - 1));
}
