use Rattle.std.proofs.Common.{◌≡◌, ◌≤◌, ◌*◌, take}
use Rattle.rule_book.specs.Batch.{paid_by}
use Rattle.player_market.proofs.trade.paid_by.Given as goal

abbrev pub invariant-loop-sale : goal.invariant-loop-sale
invariant-loop-sale l = record { sum : l.paid ≡ paid_by (take l.sale-index l.sales); bound : l.paid ≤ 200 * l.sale-index }
