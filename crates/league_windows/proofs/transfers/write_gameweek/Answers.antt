use Rattle.std.proofs.Common.{◌≡◌, ◌<◌, ◌+◌, ◌-◌, ◌∙◌, arith, ap, get_or, length}
use Rattle.league_windows.proofs.SalesWritten.{one_before}
use Rattle.league_windows.proofs.transfers.write_gameweek.Goals as goal

pub loop-behind-preserved : goal.loop-behind-preserved
loop-behind-preserved c =
    let sales = c.args.sales.now in
    let behind = c.loop-behind.behind in
    let sold = c.index-sales-count.result in
    let wrote = c.in_ok-write_if_made.ensures in
    let below : length sales - (behind + 1) < length sales = omega (arith, c.loop-behind-test.true) in
    let next : length sales - behind ≡ (length sales - (behind + 1)) + 1 = omega (arith, c.loop-behind-test.true) in
    let place : (length sales - 1) - behind ≡ length sales - (behind + 1) = omega arith in
    record {
      tokens = one_before c.args.out.now.tokens c.args.entry c.args.gameweek sales (length sales - (behind + 1)) (length sales - behind) sold below next
          (c.index-sales-count.is ∙ ap (λ k. get_or sales k sold) place) wrote c.loop-behind.invariant.tokens;
      before = wrote.before ∙ c.loop-behind.invariant.before;
    }
