use Rattle.std.proofs.Common.{◌≡◌, ◌*◌, pos, neg_ℤ, ◌≤ℤ◌, take}
use Rattle.rule_book.specs.HeadToHead.{head_score}
use Rattle.leagues_and_cups.proofs.matches.head_score.Given as goal

abbrev pub invariant-loop-played : goal.invariant-loop-played
invariant-loop-played l = record {
  score : l.score ≡ head_score (take l.played-index l.matches);
  low : neg_ℤ (pos (18000000 * l.played-index)) ≤ℤ l.score.scored;
  high : l.score.scored ≤ℤ pos (18000000 * l.played-index);
}
