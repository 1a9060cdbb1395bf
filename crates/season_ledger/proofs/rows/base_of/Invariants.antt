use Rattle.std.proofs.Common.{◌≡◌, drop}
use Rattle.season_ledger.specs.Rows.{base_at, or_else}
use Rattle.season_ledger.proofs.rows.base_of.Given as goal

abbrev pub invariant-loop-row : goal.invariant-loop-row
invariant-loop-row l = or_else (base_at (drop l.row-index l.rows) l.g) l.found ≡ base_at l.rows l.g
