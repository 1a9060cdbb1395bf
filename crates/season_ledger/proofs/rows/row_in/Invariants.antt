use Rattle.std.proofs.Common.{◌≡◌, drop}
use Rattle.season_ledger.specs.Rows.{row_at}
use Rattle.season_ledger.proofs.rows.row_in.Given as goal

abbrev pub invariant-loop-row : goal.invariant-loop-row
invariant-loop-row l = row_at (drop l.row-index l.rows) l.gameweek ≡ row_at l.rows l.gameweek
