use Rattle.std.proofs.Common.{◌≡◌, drop, map, []}
use Rattle.fpl_requests.specs.Tables.{all_added, row_of}
use Rattle.fpl_requests.specs.Targets.{rows_at}
use Rattle.fpl_requests.proofs.routes.router_of.Given as goal

-- the table so far with the rows that are left is the table of all
abbrev pub invariant-loop-row : goal.invariant-loop-row
invariant-loop-row l = all_added l.router (rows_at l.method (map row_of (drop l.row-index l.rows))) ≡ all_added [] (rows_at l.method (map row_of l.rows))
