use Rattle.std.proofs.Common.{◌≡◌, drop}
use Rattle.rule_book.specs.Batch.{pick_after}
use Rattle.player_market.proofs.trade.pick_after.Given as goal

abbrev pub invariant-loop-sale : goal.invariant-loop-sale
invariant-loop-sale l = pick_after (drop l.sale-index l.sales) l.pick ≡ pick_after l.sales l.pick
