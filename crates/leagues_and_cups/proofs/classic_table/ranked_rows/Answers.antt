use Rattle.std.proofs.Common.{◌≡◌, ◌∙◌, sym, ap, ◌-◌, ◌+◌, arith, get_or}
use Rattle.rule_book.proofs.RankLemmas.{mapped_more}
use Rattle.leagues_and_cups.specs.ClassicStanding.{rank_placed, with_rank, ranked_placed}
use Rattle.leagues_and_cups.specs.declared.classic_table.Placed.{Placed}
use Rattle.leagues_and_cups.proofs.classic_table.ranked_rows.Goals as goal

pub loop-place-preserved : goal.loop-place-preserved
loop-place-preserved c =
    let rows = c.args.rows.now in
    let i = c.loop-place.place in
    let row = c.index-rows-place.result in
    let rank : c.next_rank-rank.result ≡ rank_placed rows (get_or rows i row) = c.next_rank-rank.ensures row in
    let same : i + 1 - 1 ≡ i = omega arith in
    let is : c.ranked_row.result ≡ ranked_placed rows (get_or rows i row) = c.ranked_row.ensures ∙ ap (λ (r : Placed). with_rank r c.next_rank-rank.result) c.index-rows-place.is ∙ ap (with_rank (get_or rows i row)) rank in
    record {
      each = mapped_more (ranked_placed rows) rows i row c.ranked_row.result c.loop-place.table.items _ c.loop-place-test.true c.loop-place.invariant.each is c.in_ok-push.ensures.items;
      last = λ d some. c.next_rank-rank.ensures d ∙ ap (λ n. rank_placed rows (get_or rows n d)) (sym same);
    }
