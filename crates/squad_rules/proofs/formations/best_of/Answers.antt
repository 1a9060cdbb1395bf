use Rattle.std.proofs.Common.{◌≡◌, ℕ, arith, subst}
use Rattle.squad_rules.specs.Pools.{Finds, pool_of}
use Rattle.squad_rules.proofs.Trying.{begin}
use Rattle.squad_rules.proofs.formations.best_of.Goals as goal

pub loop-defenders-init : goal.loop-defenders-init
loop-defenders-init c = begin (pool_of c.args.pools.now)

pub returns : goal.returns
returns c =
    let pools = pool_of c.args.pools.now in
    let at = c.loop-defenders in
    let all : at.defenders ≡ 6 = omega arith in
    subst (λ (d : ℕ). Finds pools d 0 at.best) all at.invariant
