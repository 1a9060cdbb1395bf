use Rattle.std.proofs.Common.{rules, nat_lt}
use Rattle.std.proofs.lemmas.List.Sorted.{IsPartitionPoint-from_clause}
use Rattle.leagues_and_cups.proofs.PlaceFacts.{parted_below}
use Rattle.leagues_and_cups.proofs.drawn.start_of.Goals as goal

pub returns-clause-parts : goal.returns-clause-parts
returns-clause-parts c =
    let rows = c.args.rows.now in
    IsPartitionPoint-from_clause (λ (row : _). nat_lt row.0 c.args.entry) rows c.partition_point.result c.partition_point.ensures.partitioned (parted_below c.args.entry rows c.requires) (λ a r q k. search rules)
