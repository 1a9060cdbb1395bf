use Rattle.std.proofs.Common.{◌+◌, ◌++◌, List, length, map, rules, sym, subst}
use Rattle.rule_book.specs.History.{in_gameweek}
use Rattle.rule_book.specs.History.Deed.{Swap}
use Rattle.season_ledger.specs.declared.row.Row.{Row}
use Rattle.season_ledger.specs.Rows.{IsKept, IsFit}
use Rattle.season_ledger.specs.Stands.{StandsFor}
use Rattle.season_ledger.proofs.Season.{on_ok_to, kept_put, batch_fit, batch_early, transferred_for}
use Rattle.season_ledger.proofs.entry.Entry.transfer.Goals as goal

pub write-requires : goal.write-requires
write-requires c = let k : IsKept c.args.self.now = search rules in
    kept_put c.args.self.now c.args.g (record { made = c.made-made.result + length c.args.sales.now; team = c.args.after.now }) k c.requires.later (batch_early c.args.self.now c.args.g c.args.sales.now c.args.after.now k c.requires.batch)
    (subst (λ n. IsFit c.args.g (record { made = n + length c.args.sales.now; team = c.args.after.now })) (sym c.made-made.ensures.rows) (batch_fit c.args.self.now c.args.g c.args.sales.now c.args.after.now k c.requires.batch c.requires.few c.requires.sold c.requires.fit))

pub returns-clause-history : goal.returns-clause-history
returns-clause-history c position h p st = let k : IsKept c.args.self.now = search rules in on_ok_to c.write.result _ _
    (λ e. subst (λ (rows : List Row). StandsFor position rows (h ++ in_gameweek c.args.g (map Swap c.args.sales.now))) (sym e)
    (transferred_for c.args.self.now c.args.g c.args.sales.now (record { made = c.made-made.result + length c.args.sales.now; team = c.args.after.now }) k c.requires.later c.requires.some c.requires.batch (search rules) position h p st))
    c.write.ensures.ok
