use Rattle.std.proofs.Common.{arith, lit≤}
use Rattle.season_rules.proofs.worth.worth_of.Goals as goal

pub overflow_cast-result-3 : goal.overflow_cast-result-3
overflow_cast-result-3 c = let k = c.requires 2 (lit≤ tt) (lit≤ tt) in omega (arith, k)

pub overflow_cast-result-4 : goal.overflow_cast-result-4
overflow_cast-result-4 c = let k = c.requires 4 (lit≤ tt) (lit≤ tt) in omega (arith, k)
