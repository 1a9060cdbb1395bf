use Rattle.std.proofs.Common.{◌≡◌, ◌<◌, ◌+◌, ◌∙◌, pos, arith, of_z, rules, to_z, w32}
use Rattle.std.proofs.lemmas.Int.{ints}
use Rattle.rule_book.specs.HistoryTransfers.{counted_through}
use Rattle.rule_book.specs.PlayerFigures.{position_in}
use Rattle.season_book.specs.EntryTotals.{total_through}
use Rattle.entry_windows.proofs.Places.{filled_at}
use Rattle.entry_windows.proofs.ranks.course.Goals as goal

pub loop-passed-preserved : goal.loop-passed-preserved
loop-passed-preserved g c =
    let facts = c.args.seen.now.facts in
    let position = position_in facts.players in
    let passed = c.loop-passed.passed in
    let inv = c.loop-passed.invariant in
    let low : passed < 38 = search rules in
    let now : to_z w32 (of_z w32 c.total_with-total.result) ≡ c.total_with-total.result = search rules in
    let near = c.total_with-total.ensures.near in
    record {
      value = λ h stands. record {
        totals = filled_at c.loop-passed.course.totals passed c.from-place.result (to_z w32 (of_z w32 c.total_with-total.result)) (pos 0) (λ k. total_through facts h (k + 1)) c.from-place.ensures (omega (arith, low, inv.totals))
            (now ∙ c.total_with-total.ensures.value h stands (inv.total h stands)) (inv.value h stands).totals;
        transfers = filled_at c.loop-passed.course.transfers passed c.from-place.result c.counted_transfers.result 0 (λ k. counted_through h (k + 1)) c.from-place.ensures (omega (arith, low, inv.transfers))
            (c.counted_transfers.ensures.history position h stands) (inv.value h stands).transfers;
      };
      total = λ h stands. now ∙ c.total_with-total.ensures.value h stands (inv.total h stands);
      near = (omega (arith, ints, near.0, now), omega (arith, ints, near.1, now));
      totals = search rules;
      transfers = search rules;
      cost = let before = inv.cost in let one = c.total_with-total.ensures.cost in let two = c.counted_transfers.ensures.counted in omega (arith, before, one, two);
    }
