use Rattle.std.proofs.Common.{◌≡◌, ◌++◌, ◌+◌, ◌-◌, [], ◌∷◌}
use Rattle.std.specs.List.{range_with_len}
use Rattle.json.specs.Token.{Token}
use Rattle.rule_book.specs.EntryRecords.{sales_in}
use Rattle.league_windows.specs.RowTokens.{row_tokens}
use Rattle.season_book.specs.TransfersWindow.{latest_of, transfer_row}
use Rattle.league_windows.proofs.transfers.write_latest.Given as goal

-- those of the last gameweeks are written
abbrev pub invariant-loop-behind : goal.invariant-loop-behind
invariant-loop-behind l = record {
  tokens : l.out.tokens ≡ (l.fn.out.tokens ++ Token.begin_array ∷ []) ++ row_tokens (transfer_row l.entry) (latest_of (sales_in l.sales) (range_with_len ((l.to + 1) - l.behind) l.behind));
  before : l.out.before ≡ l.fn.out.before;
}
