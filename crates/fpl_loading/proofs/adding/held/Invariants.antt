use Rattle.std.proofs.Common.{◌≡◌, drop}
use Rattle.fpl_loading.specs.More.{found_there}
use Rattle.fpl_loading.proofs.RowLemmas.{with_rows}
use Rattle.fpl_loading.proofs.adding.held.Given as goal

-- so many rows were held, and with what the others will be found to be that is all
abbrev pub invariant-loop-same : goal.invariant-loop-same
invariant-loop-same l = with_rows l.added l.at (drop l.same-index l.rows) ≡ found_there l.fn.place l.rows
