use Rattle.std.proofs.Common.{◌≡◌, List, rules, sym, subst}
use Rattle.season_ledger.specs.declared.row.Row.{Row}
use Rattle.season_ledger.specs.Rows.{IsKept, rows_of_records}
use Rattle.season_ledger.specs.Stands.{StandsFor}
use Rattle.season_ledger.proofs.Restored.{kept_rows, rows_stand}
use Rattle.season_ledger.proofs.entry.Entry.restore.Goals as goal

pub invariant_of-result : goal.invariant_of-result
invariant_of-result c = let e : c.in_ok-rows.rows.items ≡ rows_of_records c.args.teams.now c.args.sales.now = search rules in
    subst IsKept (sym e) (kept_rows c.args.teams.now c.args.sales.now c.requires)

pub returns-clause-history : goal.returns-clause-history
returns-clause-history c position h k r = let e : c.in_ok-rows.rows.items ≡ rows_of_records c.args.teams.now c.args.sales.now = search rules in
    let kept : IsKept (rows_of_records c.args.teams.now c.args.sales.now) = kept_rows c.args.teams.now c.args.sales.now c.requires in
    subst (λ (rows : List Row). StandsFor position rows h) (sym e) (rows_stand c.args.teams.now c.args.sales.now position h kept.rise k r)
