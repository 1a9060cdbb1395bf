use Rattle.std.proofs.Common.{◌≡◌, take}
use Rattle.season_restoring.specs.Restored.{with_rows}
use Rattle.season_restoring.proofs.restoring.with_rows.Given as goal

abbrev pub invariant-rows : goal.invariant-rows
invariant-rows l = l.parts ≡ with_rows l.fn.begun (take l.row-index l.rows)
