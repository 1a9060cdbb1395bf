use Rattle.std.proofs.Common.{arith}
use Rattle.std.proofs.lemmas.Int.{ints, to_z-of_z}
use Rattle.std.proofs.lemmas.List.Sums.{fold_more}
use Rattle.live_windows.proofs.sums.bps_sum.Goals as goal

pub loop-own-preserved : goal.loop-own-preserved
loop-own-preserved c = record {
  value = grind (arith, ints, to_z-of_z, fold_more);
  low = let before = c.loop-own.invariant.low in let one = c.bps-sum.ensures.low in omega (arith, ints, before, one);
  high = let before = c.loop-own.invariant.high in let one = c.bps-sum.ensures.high in omega (arith, ints, before, one);
}
