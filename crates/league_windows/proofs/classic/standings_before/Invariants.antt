use Rattle.std.proofs.Common.{◌≡◌, ◌≤◌, ◌+◌, ◌*◌, length, map, take}
use Rattle.season_views.specs.Seen.{OfEachSeen}
use Rattle.league_windows.specs.Standings.{standing_before}
use Rattle.league_windows.proofs.classic.standings_before.Given as goal

abbrev pub invariant-loop-row : goal.invariant-loop-row
invariant-loop-row g l = record {
  value : OfEachSeen l.seen (λ entries. l.standings.items ≡ map (standing_before l.seen.facts entries) (take l.row-index l.rows));
  long : length l.standings.items ≡ length (take l.row-index l.rows);
  cost : l.steps ≤ l.fn.steps + 2 * l.row-index;
}
