use Rattle.std.proofs.Common.{◌≤◌, arith, rules}
use Rattle.season_rules.proofs.heads.rounds_of.Goals as goal

pub returns-clause-few : goal.returns-clause-few
returns-clause-few c some =
    let most : c.locked.result ≤ 38 = search rules in
    let one = c.start.ensures.there some in
    omega (arith, c.saturating_sub.ensures, most, one)
