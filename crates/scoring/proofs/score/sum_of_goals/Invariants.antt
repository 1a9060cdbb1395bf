use Rattle.std.proofs.Common.{◌≡◌, ◌≤◌, ◌*◌, take, sum_by}
use Rattle.rule_book.specs.TeamScores.{goals_at}
use Rattle.scoring.proofs.score.sum_of_goals.Given as goal

abbrev pub invariant-loop-slot : goal.invariant-loop-slot
invariant-loop-slot l =
    (l.total ≡ sum_by (goals_at l.figures) (take l.slot-index l.slots)) × (l.total ≤ 1000000 * l.slot-index)
