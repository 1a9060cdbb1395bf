use Rattle.std.proofs.Common.{◌∙◌, ◌+◌, ap, subst, sym}
use Rattle.squad_rules.specs.Pools.{Finds, pool_of, preferred}
use Rattle.squad_rules.proofs.Trying.{none_here, one_more}
use Rattle.squad_rules.proofs.formations.with_midfielders.Goals as goal

pub returns-in-Some : goal.returns-in-Some
returns-in-Some c =
    let pools = pool_of c.args.pools.now in
    let found = one_more pools c.args.defenders c.args.midfielders c.in-Some.forwards c.in-Some.ensures.formation c.args.best c.requires.before in
    subst (Finds pools c.args.defenders (c.args.midfielders + 1)) (sym (c.preferred.ensures ∙ ap (preferred c.args.best) c.tried.ensures)) found

pub returns-in-None : goal.returns-in-None
returns-in-None c = none_here (pool_of c.args.pools.now) c.args.defenders c.args.midfielders c.args.best c.in-None.ensures.none c.requires.before
