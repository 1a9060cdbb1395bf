use Rattle.std.proofs.Common.{◌≡◌, ◌<◌, ◌+◌, ◌-◌, ◌∙◌, [], ◌∷◌, ◌++◌, List, ap, arith, map, reverse}
use Rattle.std.specs.List.{range_with_len}
use Rattle.json.specs.Token.{Token}
use Rattle.rule_book.specs.EntryRecords.{sales_in}
use Rattle.rule_book.specs.Totals.{gameweeks}
use Rattle.league_windows.specs.RowTokens.{row_tokens}
use Rattle.season_book.specs.TransfersWindow.{latest_of, transfer_row}
use Rattle.league_windows.proofs.RowsWritten.{rows_ended, rows_more}
use Rattle.league_windows.proofs.SalesWritten.{all_gameweeks, latest_more}
use Rattle.league_windows.proofs.transfers.write_latest.Goals as goal

pub loop-behind-preserved : goal.loop-behind-preserved
loop-behind-preserved c =
    let sold = sales_in c.args.sales.now in
    let to = c.args.to in
    let k = c.loop-behind.behind in
    let base : List Token = c.args.out.now.tokens ++ Token.begin_array ∷ [] in
    let wrote = c.in_ok-write_gameweek.ensures in
    let below : k < to + 1 = omega (arith, c.loop-behind-test.true, c.saturating_sub-count.ensures) in
    record {
      tokens = rows_more (transfer_row c.args.entry) base (latest_of sold (range_with_len ((to + 1) - k) k)) (reverse (map (λ sale. (to - k, sale)) (sold (to - k)))) wrote c.loop-behind.invariant.tokens
          ∙ ap (λ s. base ++ row_tokens (transfer_row c.args.entry) s) (latest_more sold to k below);
      before = wrote.before ∙ c.loop-behind.invariant.before;
    }

pub returns : goal.returns
returns c =
    let sold = sales_in c.args.sales.now in
    let to = c.args.to in
    let from = c.args.from in
    let k = c.loop-behind.behind in
    let base : List Token = c.args.out.now.tokens ++ Token.begin_array ∷ [] in
    let all : k ≡ (to + 1) - from = omega (arith, c.loop-behind-test.false, c.loop-behind.auto.behind-end, c.saturating_sub-count.ensures) in
    rows_ended (transfer_row c.args.entry) (latest_of sold (gameweeks from to)) c.end_array.ensures
    (c.loop-behind.invariant.tokens ∙ ap (λ gws. base ++ row_tokens (transfer_row c.args.entry) (latest_of sold gws)) (all_gameweeks from to k all))
    c.loop-behind.invariant.before
