use Rattle.std.proofs.Common.{◌≡◌, ◌≤◌, ◌*◌, sum_by, take}
use Rattle.live_windows.specs.declared.sums.LiveLine.{LiveLine}
use Rattle.live_windows.proofs.sums.bonus_of.Given as goal

abbrev pub invariant-loop-own : goal.invariant-loop-own
invariant-loop-own l = record {
  value : l.sum ≡ sum_by (λ (own : LiveLine). own.bonus) (take l.own-index l.lines);
  small : l.sum ≤ 255 * l.own-index;
}
