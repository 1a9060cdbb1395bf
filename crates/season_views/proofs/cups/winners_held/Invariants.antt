use Rattle.std.proofs.Common.{◌≡◌, ◌≤◌, ◌+◌, Some, map}
use Rattle.std.specs.List.{range_with_len}
use Rattle.rule_book.specs.Cups.{winner}
use Rattle.rule_book.specs.Entries.{entry_in}
use Rattle.season_graph.specs.Followed.{AreEvaluated}
use Rattle.season_graph.specs.Told.{side_told}
use Rattle.season_nodes.specs.Season.{SeasonFacts}
use Rattle.season_views.proofs.cups.winners_held.Given as goal

abbrev pub invariant-loop-place : goal.invariant-loop-place
invariant-loop-place g l = record {
  value : (b : SeasonFacts) → AreEvaluated b l.cells → entry_in b.cups l.id ≡ Some l.bracket → l.bracket.start + l.round ≤ b.calendar.locked
      → l.winners ≡ map (winner l.bracket (side_told b) (l.round + 1)) (range_with_len 0 l.place);
  cost : l.steps ≤ l.fn.steps + l.place;
}
