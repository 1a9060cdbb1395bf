use Rattle.std.proofs.Common.{rules, arith}
use Rattle.std.specs.Ordering.{is_lt}
use Rattle.std.proofs.lemmas.List.Sorted.{IsPartitionPoint-from_clause}
use Rattle.rule_book.proofs.RankLemmas.{below_first, count_at_point, count_below}
use Rattle.rule_book.proofs.ranking.count_less.Goals as goal

pub returns : goal.returns
returns g c =
    let sorted = c.args.sorted.now in
    let one = c.args.standing.now in
    let less = λ (y : g.row.S.Denot). is_lt (g.S.Ord.cmp y one) in
    let first = below_first g.met.S.Ord.total sorted one c.requires.in_order in
    let point = IsPartitionPoint-from_clause less sorted c.partition_point.result c.partition_point.ensures.partitioned first (λ a r q k. search rules) in
    let is = count_at_point g.S.Ord.cmp sorted one c.partition_point.result c.partition_point.ensures.bound point in
    record {
      count = is;
      not_all = omega (arith, is, count_below g.met.S.Ord.total sorted one c.requires.among);
    }
