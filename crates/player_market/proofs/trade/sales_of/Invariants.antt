use Rattle.std.proofs.Common.{◌≡◌, take}
use Rattle.std.specs.Prelude.{All}
use Rattle.rule_book.specs.Batch.{sales_of}
use Rattle.player_market.specs.Bounds.{IsCheap}
use Rattle.player_market.proofs.trade.sales_of.Given as goal

abbrev pub invariant-loop-swap : goal.invariant-loop-swap
invariant-loop-swap l = record { made : l.sales ≡ sales_of l.players l.picks (take l.swap-index l.swaps); cheap : All IsCheap l.sales }
