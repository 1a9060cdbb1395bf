use Rattle.std.proofs.Common.{◌≡◌, ◌≤◌, ◌+◌, ◌*◌, map, take}
use Rattle.season_views.specs.Entries.{OfEachBook}
use Rattle.season_views.specs.Leagues.{classic_row_since}
use Rattle.season_views.proofs.classic.classic_rows.Given as goal

abbrev pub invariant-loop-member : goal.invariant-loop-member
invariant-loop-member g l = record {
  value : OfEachBook l.seen.facts l.seen.managers (λ entries. l.rows.items ≡ map (classic_row_since l.seen.facts entries l.league.start) (take l.member-index l.league.members));
  entries : map (λ row. row.0) l.rows.items ≡ take l.member-index l.league.members;
  cost : l.steps ≤ l.fn.steps + 2 * l.member-index;
}
