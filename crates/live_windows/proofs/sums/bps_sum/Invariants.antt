use Rattle.std.proofs.Common.{◌≡◌, ◌*◌, fold, pos, neg_ℤ, ◌+ℤ◌, ◌≤ℤ◌, take}
use Rattle.std.specs.Prelude.{ℤ}
use Rattle.rule_book.specs.BonusPoints.{bps_of}
use Rattle.live_windows.specs.declared.sums.LiveLine.{LiveLine}
use Rattle.live_windows.proofs.sums.bps_sum.Given as goal

abbrev pub invariant-loop-own : goal.invariant-loop-own
invariant-loop-own l = record {
  value : l.sum ≡ fold (λ (total : ℤ) (own : LiveLine). total +ℤ bps_of l.position own.line) (pos 0) (take l.own-index l.lines);
  low : neg_ℤ (pos (10000 * l.own-index)) ≤ℤ l.sum;
  high : l.sum ≤ℤ pos (10000 * l.own-index);
}
