use Rattle.std.proofs.Common.{◌≡◌, ◌≤◌, ◌+◌, Some, map, take}
use Rattle.rule_book.specs.Entries.{entry_in}
use Rattle.rule_book.specs.LeagueRows.{head_row}
use Rattle.season_graph.specs.Followed.{AreEvaluated}
use Rattle.season_graph.specs.Told.{net_told}
use Rattle.season_nodes.specs.Season.{SeasonFacts}
use Rattle.season_views.proofs.head.head_rows.Given as goal

abbrev pub invariant-loop-member : goal.invariant-loop-member
invariant-loop-member g l = record {
  value : (b : SeasonFacts) → AreEvaluated b l.cells → entry_in b.leagues l.id ≡ Some l.league → l.rows.items ≡ map (head_row (net_told b) b.calendar.locked l.league) (take l.member-index l.league.members);
  entries : map (λ row. row.0) l.rows.items ≡ take l.member-index l.league.members;
  cost : l.steps ≤ l.fn.steps + l.member-index;
}
