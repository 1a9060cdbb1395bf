use Rattle.std.proofs.Common.{◌≡◌, ◌*◌, take, pos, neg_ℤ, ◌≤ℤ◌}
use Rattle.rule_book.specs.HeadToHead.{total_of}
use Rattle.squad_rules.proofs.Collecting.{points_in}
use Rattle.squad_rules.proofs.formations.total_of.Given as goal

-- the sum so far, which is no further from 0 than so many numbers can be
abbrev pub invariant-loop-candidate : goal.invariant-loop-candidate
invariant-loop-candidate l = record {
  so_far : l.total ≡ total_of (points_in (take l.candidate-index l.candidates));
  low : neg_ℤ (pos (1000000 * l.candidate-index)) ≤ℤ l.total;
  high : l.total ≤ℤ pos (1000000 * l.candidate-index);
}
