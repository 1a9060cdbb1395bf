use Rattle.std.proofs.Common.{◌≡◌, ◌≤◌, ◌+◌, ◌-◌, ◌*◌, ◌++◌, Some, length, max}
use Rattle.std.specs.List.{range_with_len}
use Rattle.json_members.specs.Tokens.{tokens_of}
use Rattle.json_members.proofs.ListLemmas.{rest_of}
use Rattle.rule_book.specs.Entries.{entry_in}
use Rattle.rule_book.specs.UpTo.{start_of}
use Rattle.season_book.specs.Book.{EntryFacts}
use Rattle.season_book.specs.Windows.{listed}
use Rattle.season_views.specs.Seen.{OfEachSeen}
use Rattle.season_book.specs.EntryRows.{entry_row_data, entry_row_of}
use Rattle.season_book.specs.HistoryWindow.{gameweeks_of}
use Rattle.entry_windows.proofs.history.write_rows.Given as goal

-- the tokens so far, and then those of the gameweeks that are left, are those of all
abbrev pub invariant-loop-passed : goal.invariant-loop-passed
invariant-loop-passed g l = record {
  tokens : OfEachSeen l.seen
      (λ entries. (row : EntryFacts) → entry_in entries l.entry ≡ Some row → start_of row.history ≡ Some l.fn.first
      → l.out.tokens ++ rest_of (λ k. entry_row_data (entry_row_of l.seen.facts entries (l.entry, row) k)) (range_with_len (l.passed + 1) (l.fn.last - l.passed))
      ≡ l.fn.out.tokens ++ tokens_of (listed (λ k. entry_row_data (entry_row_of l.seen.facts entries (l.entry, row) k)) (gameweeks_of l.seen.facts row.history)));
  before : OfEachSeen l.seen (λ entries. (row : EntryFacts) → entry_in entries l.entry ≡ Some row → start_of row.history ≡ Some l.fn.first → l.out.before ≡ l.fn.out.before);
  from : l.fn.first - 1 ≤ l.passed;
  to : l.passed ≤ max (l.fn.first - 1) l.fn.last;
  cost : l.steps ≤ l.fn.steps + (length l.seen.managers.managers + 1) * (2 * l.fn.last) + 18 * (l.passed - (l.fn.first - 1));
}
