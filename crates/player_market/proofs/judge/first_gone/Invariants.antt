use Rattle.std.proofs.Common.{◌≡◌, drop}
use Rattle.rule_book.specs.Batch.{first_gone}
use Rattle.player_market.proofs.judge.first_gone.Given as goal

abbrev pub invariant-loop-swap : goal.invariant-loop-swap
invariant-loop-swap l = first_gone l.players (drop l.swap-index l.swaps) ≡ first_gone l.players l.swaps
