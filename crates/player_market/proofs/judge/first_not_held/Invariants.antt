use Rattle.std.proofs.Common.{◌≡◌, not, take, drop}
use Rattle.rule_book.specs.Batch.{first_barred, is_held, first_not_held}
use Rattle.player_market.proofs.judge.first_not_held.Given as goal

abbrev pub invariant-loop-place : goal.invariant-loop-place
invariant-loop-place l = first_barred (λ s. s.out) (λ id. not (is_held l.picks id)) (take l.place l.swaps) (drop l.place l.swaps) ≡ first_not_held l.picks l.swaps
