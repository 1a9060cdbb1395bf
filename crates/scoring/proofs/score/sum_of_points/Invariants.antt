use Rattle.std.proofs.Common.{◌≡◌, ◌*◌, take, pos, neg_ℤ, ◌≤ℤ◌}
use Rattle.rule_book.specs.TeamScores.{points_of_slots}
use Rattle.scoring.proofs.score.sum_of_points.Given as goal

abbrev pub invariant-loop-slot : goal.invariant-loop-slot
invariant-loop-slot l =
    (l.total ≡ points_of_slots l.figures (take l.slot-index l.slots)) × (neg_ℤ (pos (1000000 * l.slot-index)) ≤ℤ l.total) × (l.total ≤ℤ pos (1000000 * l.slot-index))
