use Rattle.std.proofs.Common.{◌≡◌, ◌≤◌, ◌+◌, ◌*◌, not}
use Rattle.rule_book.specs.FigureRange.{IsWithin}
use Rattle.season_book.specs.EntryRows.{does_count}
use Rattle.entry_windows.specs.Told.{figures_in}
use Rattle.entry_windows.proofs.Bench.{points_until}
use Rattle.entry_windows.proofs.rows.bench_points.Given as goal

abbrev pub invariant-loop-place : goal.invariant-loop-place
invariant-loop-place g l = record {
  points : l.points ≡ points_until (figures_in l.seen.facts l.played.team l.gameweek) (λ slot. not (does_count l.played.team l.played.score.eleven.slots slot)) l.place;
  near : IsWithin (1000000 * l.place) l.points;
  few : l.place ≤ 15;
  cost : l.steps ≤ l.fn.steps + l.place;
}
