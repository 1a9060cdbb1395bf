use Rattle.std.proofs.Common.{◌≡◌, map, take}
use Rattle.std.specs.Ordering.{is_lt}
use Rattle.rule_book.specs.Ranks.{rank_among}
use Rattle.rule_book.proofs.ranking.ranks.Given as goal

abbrev pub invariant-loop-standing : goal.invariant-loop-standing
invariant-loop-standing g l =
    l.ranks.items ≡ map (rank_among (λ a b. is_lt (g.S.Ord.cmp a b)) l.standings) (take l.standing-index l.standings)
