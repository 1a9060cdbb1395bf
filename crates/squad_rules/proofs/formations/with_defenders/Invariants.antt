use Rattle.squad_rules.specs.Pools.{Finds, pool_of}
use Rattle.squad_rules.proofs.formations.with_defenders.Given as goal

abbrev pub invariant-loop-midfielders : goal.invariant-loop-midfielders
invariant-loop-midfielders l = Finds (pool_of l.pools) l.defenders l.midfielders l.best
