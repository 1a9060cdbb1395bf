use Rattle.std.proofs.Common.{◌≡◌, drop}
use Rattle.rule_book.specs.Batch.{first_full_club}
use Rattle.player_market.proofs.clubs.first_full_club.Given as goal

abbrev pub invariant-loop-swap : goal.invariant-loop-swap
invariant-loop-swap l = first_full_club l.players l.after (drop l.swap-index l.swaps) ≡ first_full_club l.players l.after l.swaps
