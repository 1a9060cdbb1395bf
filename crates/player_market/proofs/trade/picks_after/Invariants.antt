use Rattle.rule_book.specs.Batch.{pick_after}
use Rattle.player_market.proofs.TradeLemmas.{MadeUpTo}
use Rattle.player_market.proofs.trade.picks_after.Given as goal

abbrev pub invariant-loop-place : goal.invariant-loop-place
invariant-loop-place l = MadeUpTo (pick_after l.sales) l.picks l.after l.place
