use Rattle.std.proofs.Common.{◌≡◌, ◌<◌, ◌-◌, map, take, get_or}
use Rattle.leagues_and_cups.specs.ClassicStanding.{rank_placed, ranked_placed}
use Rattle.leagues_and_cups.specs.declared.classic_table.Placed.{Placed}
use Rattle.leagues_and_cups.proofs.classic_table.ranked_rows.Given as goal

abbrev pub invariant-loop-place : goal.invariant-loop-place
invariant-loop-place l = record {
  each : l.table.items ≡ map (ranked_placed l.rows) (take l.place l.rows);
  last : (d : Placed) → 0 < l.place → l.rank ≡ rank_placed l.rows (get_or l.rows (l.place - 1) d);
}
