use Rattle.std.proofs.Common.{◌≡◌, take, drop}
use Rattle.rule_book.specs.Batch.{first_barred, is_held, first_held}
use Rattle.player_market.proofs.judge.first_held.Given as goal

abbrev pub invariant-loop-place : goal.invariant-loop-place
invariant-loop-place l = first_barred (λ s. s.into) (is_held l.picks) (take l.place l.swaps) (drop l.place l.swaps) ≡ first_held l.picks l.swaps
