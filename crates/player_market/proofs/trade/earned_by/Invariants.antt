use Rattle.std.proofs.Common.{◌≡◌, ◌≤◌, ◌*◌, take}
use Rattle.rule_book.specs.Batch.{earned_by}
use Rattle.player_market.proofs.trade.earned_by.Given as goal

abbrev pub invariant-loop-sale : goal.invariant-loop-sale
invariant-loop-sale l = record { sum : l.earned ≡ earned_by (take l.sale-index l.sales); bound : l.earned ≤ 200 * l.sale-index }
