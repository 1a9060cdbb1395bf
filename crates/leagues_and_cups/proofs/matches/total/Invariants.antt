use Rattle.std.proofs.Common.{◌≡◌, ◌*◌, pos, neg_ℤ, ◌≤ℤ◌, take}
use Rattle.rule_book.specs.HeadToHead.{total_of}
use Rattle.leagues_and_cups.proofs.matches.total.Given as goal

abbrev pub invariant-loop-score : goal.invariant-loop-score
invariant-loop-score l = record {
  sum : l.sum ≡ total_of (take l.score-index l.scores);
  low : neg_ℤ (pos (18000000 * l.score-index)) ≤ℤ l.sum;
  high : l.sum ≤ℤ pos (18000000 * l.score-index);
}
