use Rattle.std.proofs.Common.{◌≡◌, drop}
use Rattle.season_ledger.specs.Rows.{row_at}
use Rattle.season_ledger.proofs.rows.row_of.Given as goal

abbrev pub invariant-loop-row : goal.invariant-loop-row
invariant-loop-row l = row_at (drop l.row-index l.rows) l.g ≡ row_at l.rows l.g
