use Rattle.std.proofs.Common.{◌≡◌, drop}
use Rattle.season_ledger.specs.Rows.{is_up_to}
use Rattle.season_ledger.proofs.rows.are_up_to.Given as goal

abbrev pub invariant-loop-row : goal.invariant-loop-row
invariant-loop-row l = is_up_to l.g (drop l.row-index l.rows) ≡ is_up_to l.g l.rows
