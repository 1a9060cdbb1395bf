use Rattle.std.proofs.Common.{◌≡◌, ◌≤◌, ◌*◌, sum_by, take}
use Rattle.live_windows.specs.declared.sums.LiveLine.{LiveLine}
use Rattle.rule_book.specs.Points.{counted_yellow}
use Rattle.live_windows.proofs.sums.yellow_cards.Given as goal

abbrev pub invariant-loop-own : goal.invariant-loop-own
invariant-loop-own l = record {
  value : l.sum ≡ sum_by (λ (own : LiveLine). counted_yellow own.line) (take l.own-index l.lines);
  small : l.sum ≤ 65535 * l.own-index;
}
