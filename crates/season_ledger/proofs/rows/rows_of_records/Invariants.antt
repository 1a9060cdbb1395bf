use Rattle.std.proofs.Common.{◌≡◌, take}
use Rattle.season_ledger.specs.Rows.{rows_of_records}
use Rattle.season_ledger.proofs.rows.rows_of_records.Given as goal

abbrev pub invariant-loop-team : goal.invariant-loop-team
invariant-loop-team l = l.rows.items ≡ rows_of_records (take l.team-index l.teams) l.sales
