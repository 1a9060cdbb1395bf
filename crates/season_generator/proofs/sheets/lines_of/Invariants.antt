use Rattle.std.proofs.Common.{◌≡◌, ◌+◌, ◌*◌}
use Rattle.season_generator.specs.Made.{lines_at}
use Rattle.season_generator.proofs.sheets.lines_of.Given as goal

abbrev pub invariant-loop-place : goal.invariant-loop-place
invariant-loop-place l = record {
  lines : l.lines ≡ lines_at l.fn.draws.0 l.fn.draws.1 l.fixture l.place;
  moved : l.draws ≡ (l.fn.draws.0, l.fn.draws.1 + 8 * l.place);
}
