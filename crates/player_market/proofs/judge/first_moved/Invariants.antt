use Rattle.std.proofs.Common.{◌≡◌, drop}
use Rattle.rule_book.specs.Batch.{first_moved}
use Rattle.player_market.proofs.judge.first_moved.Given as goal

abbrev pub invariant-loop-swap : goal.invariant-loop-swap
invariant-loop-swap l = first_moved l.players l.picks (drop l.swap-index l.swaps) ≡ first_moved l.players l.picks l.swaps
