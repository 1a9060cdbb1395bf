use Rattle.squad_rules.proofs.Collecting.{sorted_pool}
use Rattle.squad_rules.proofs.pools.pool.Goals as goal

pub returns : goal.returns
returns c =
    sorted_pool c.args.rows.now c.args.position c.in_ok-pool.pool.items c.sort_unstable.new.self.items c.requires.differ c.requires.near
    c.in_ok-pool.ensures c.sort_unstable.ensures.permutation c.sort_unstable.ensures.sorted
