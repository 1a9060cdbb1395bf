use Rattle.std.proofs.Common.{arith, refl, sym}
use Rattle.rule_book.specs.Batch.{pick_after}
use Rattle.player_market.proofs.TradeLemmas.{made_more, made_whole}
use Rattle.player_market.proofs.trade.picks_after.Goals as goal

pub loop-place-init : goal.loop-place-init
loop-place-init c = record { long = sym c.type_inv.picks; front = refl }

pub loop-place-preserved : goal.loop-place-preserved
loop-place-preserved c = rw c.pick_after.ensures (made_more (pick_after c.args.sales.now) c.args.picks.now c.loop-place.after c.loop-place.place c.index-picks-place.result (omega arith) c.loop-place.invariant)

pub returns : goal.returns
returns c = made_whole _ c.args.picks.now c.loop-place.after c.loop-place.place (omega arith) c.loop-place.invariant
