use Rattle.std.proofs.Common.{rules}
use Rattle.std.proofs.lemmas.Fn.{always_returns_same}
use Rattle.fpl_base.specs.Keeping.{precedes}
use Rattle.fpl_base.proofs.RowLemmas.{parted}
use Rattle.test_doubles.proofs.rows.place_of.Goals as goal

pub returns : goal.returns
returns c =
    let point = c.partition_point.ensures.partitioned (λ row. precedes row.0 c.args.key) (always_returns_same _ _ _ (λ a r g called. search rules)) (parted c.args.rows.now c.args.key c.requires.rise) in
    record { bound = c.partition_point.ensures.bound; before = point.0; behind = point.1 }
