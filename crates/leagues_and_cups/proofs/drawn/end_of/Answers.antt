use Rattle.std.proofs.Common.{rules, nat_le}
use Rattle.std.proofs.lemmas.List.Sorted.{IsPartitionPoint-from_clause}
use Rattle.leagues_and_cups.proofs.PlaceFacts.{parted_to}
use Rattle.leagues_and_cups.proofs.drawn.end_of.Goals as goal

pub returns-clause-parts : goal.returns-clause-parts
returns-clause-parts c =
    let rows = c.args.rows.now in
    IsPartitionPoint-from_clause (λ (row : _). nat_le row.0 c.args.entry) rows c.partition_point.result c.partition_point.ensures.partitioned (parted_to c.args.entry rows c.requires) (λ a r q k. search rules)
