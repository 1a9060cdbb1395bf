use Rattle.std.proofs.Common.{◌≡◌, ◌≤◌, take, count_by}
use Rattle.rule_book.specs.Teams.{midfielder_at, defender_at, forward_at}
use Rattle.scoring.proofs.counts.Counts.of.Given as goal

abbrev pub invariant-loop-slot : goal.invariant-loop-slot
invariant-loop-slot l =
    (l.defenders ≡ count_by (defender_at l.team) (take l.slot-index l.slots))
    × (l.midfielders ≡ count_by (midfielder_at l.team) (take l.slot-index l.slots))
    × (l.forwards ≡ count_by (forward_at l.team) (take l.slot-index l.slots))
    × (l.defenders ≤ l.slot-index) × (l.midfielders ≤ l.slot-index) × (l.forwards ≤ l.slot-index)
