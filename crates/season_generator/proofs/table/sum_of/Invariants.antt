use Rattle.std.proofs.Common.{◌≡◌, ◌*◌, drop, pos, ◌+ℤ◌, neg_ℤ, ◌≤ℤ◌}
use Rattle.season_generator.specs.Summaries.{sum_of}
use Rattle.season_generator.proofs.table.sum_of.Given as goal

-- the sum so far, with that of the rows that are left, is the sum of all; and each row adds no more than a total can be
abbrev pub invariant-loop-ranked : goal.invariant-loop-ranked
invariant-loop-ranked l = record {
  so_far : l.sum +ℤ sum_of (drop l.ranked-index l.rows) ≡ sum_of l.rows;
  low : neg_ℤ (pos (2147483648 * l.ranked-index)) ≤ℤ l.sum;
  high : l.sum ≤ℤ pos (2147483648 * l.ranked-index);
}
