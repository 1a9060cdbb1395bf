use Rattle.std.proofs.Common.{◌≡◌, ◌*◌, fold, pos, neg_ℤ, ◌+ℤ◌, ◌≤ℤ◌, take}
use Rattle.std.specs.Prelude.{ℤ}
use Rattle.rule_book.specs.Points.{points_of}
use Rattle.live_windows.specs.declared.sums.LiveLine.{LiveLine}
use Rattle.live_windows.proofs.sums.points_sum.Given as goal

abbrev pub invariant-loop-own : goal.invariant-loop-own
invariant-loop-own l = record {
  value : l.sum ≡ fold (λ (total : ℤ) (own : LiveLine). total +ℤ (points_of l.profile l.position own.line +ℤ pos own.bonus)) (pos 0) (take l.own-index l.lines);
  low : neg_ℤ (pos (100000 * l.own-index)) ≤ℤ l.sum;
  high : l.sum ≤ℤ pos (100000 * l.own-index);
}
