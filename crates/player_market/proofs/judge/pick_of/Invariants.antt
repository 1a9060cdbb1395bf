use Rattle.std.proofs.Common.{◌≡◌, drop}
use Rattle.rule_book.specs.Batch.{pick_of}
use Rattle.player_market.proofs.judge.pick_of.Given as goal

abbrev pub invariant-loop-pick : goal.invariant-loop-pick
invariant-loop-pick l = pick_of (drop l.pick-index l.picks) l.player ≡ pick_of l.picks l.player
