use Rattle.std.proofs.Common.{sym, ◌∙◌, ap, ◌+◌}
use Rattle.std.specs.Ordering.{is_lt}
use Rattle.rule_book.specs.Ranks.{rank_among}
use Rattle.rule_book.proofs.RankLemmas.{Contains-among, rank_kept, mapped_more}
use Rattle.rule_book.proofs.ranking.ranks.Goals as goal

pub count_less-better-requires-clause-among : goal.count_less-better-requires-clause-among
count_less-better-requires-clause-among g c =
    Contains-among c.args.standings.now c.in_ok-sorted.sorted.items _ c.deref.result.now c.standing-item.result c.in_ok-sorted.ensures.items c.in_ok-sort.ensures.permutation c.deref.ensures.value
    (c.loop-standing.standing-index, c.loop-standing-test.true, sym c.standing-item.is)

pub loop-standing-preserved : goal.loop-standing-preserved
loop-standing-preserved g c =
    let better = λ (a : g.row.S.Denot) (b : g.row.S.Denot). is_lt (g.S.Ord.cmp a b) in
    let rank = rank_kept better c.args.standings.now c.in_ok-sorted.sorted.items _ c.deref.result.now c.standing-item.result (c.count_less-better.result + 1) c.in_ok-sorted.ensures.items c.in_ok-sort.ensures.permutation c.deref.ensures.value (ap (λ n. n + 1) c.count_less-better.ensures.count) in
    mapped_more (rank_among better c.args.standings.now) c.args.standings.now c.loop-standing.standing-index c.standing-item.result (c.count_less-better.result + 1) c.loop-standing.ranks.items _ c.loop-standing-test.true c.loop-standing.invariant (rank ∙ ap (rank_among better c.args.standings.now) c.standing-item.is) c.in_ok-push.ensures.items
