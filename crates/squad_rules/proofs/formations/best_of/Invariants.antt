use Rattle.squad_rules.specs.Pools.{Finds, pool_of}
use Rattle.squad_rules.proofs.formations.best_of.Given as goal

abbrev pub invariant-loop-defenders : goal.invariant-loop-defenders
invariant-loop-defenders l = Finds (pool_of l.pools) l.defenders 0 l.best
