use Rattle.squad_rules.specs.Pools.{pool_of}
use Rattle.squad_rules.proofs.Weekly.{is_dream, none_legal}
use Rattle.squad_rules.proofs.dream.dream_team.Goals as goal

pub returns-in-Some-clause-some : goal.returns-in-Some-clause-some
returns-in-Some-clause-some c =
    is_dream c.args.rows.now c.requires.differ (pool_of c.in_ok-pools.pools) c.in_ok-pools.ensures c.in-Some.best c.in-Some.ensures c.dream_of.result
    c.dream_of.ensures.players c.dream_of.ensures.defenders c.dream_of.ensures.midfielders c.dream_of.ensures.forwards c.dream_of.ensures.total

pub returns-clause-none : goal.returns-clause-none
returns-clause-none c = none_legal c.args.rows.now c.requires.differ (pool_of c.in_ok-pools.pools) c.in_ok-pools.ensures c.in-None.ensures
