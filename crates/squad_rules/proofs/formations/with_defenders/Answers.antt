use Rattle.std.proofs.Common.{◌≡◌, ℕ, arith, subst}
use Rattle.squad_rules.specs.Pools.{Finds, pool_of}
use Rattle.squad_rules.proofs.Trying.{row_end}
use Rattle.squad_rules.proofs.formations.with_defenders.Goals as goal

pub returns : goal.returns
returns c =
    let pools = pool_of c.args.pools.now in
    let at = c.loop-midfielders in
    let all : at.midfielders ≡ 6 = omega arith in
    row_end pools c.args.defenders at.best (subst (λ (m : ℕ). Finds pools c.args.defenders m at.best) all at.invariant)
