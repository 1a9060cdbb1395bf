use Rattle.std.proofs.Common.{◌≡◌, ◌++◌, ◌-◌, drop, length}
use Rattle.league_windows.specs.RowTokens.{row_tokens}
use Rattle.season_book.specs.TransfersWindow.{transfer_row}
use Rattle.league_windows.proofs.SalesWritten.{backwards}
use Rattle.league_windows.proofs.transfers.write_gameweek.Given as goal

-- those of the gameweek among the last ones are written
abbrev pub invariant-loop-behind : goal.invariant-loop-behind
invariant-loop-behind l = record {
  tokens : l.out.tokens ≡ l.fn.out.tokens ++ row_tokens (transfer_row l.entry) (backwards l.gameweek (drop (length l.sales - l.behind) l.sales));
  before : l.out.before ≡ l.fn.out.before;
}
