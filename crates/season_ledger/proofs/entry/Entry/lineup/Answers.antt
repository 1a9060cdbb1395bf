use Rattle.std.proofs.Common.{◌++◌, ◌∷◌, List, [], rules, sym, subst}
use Rattle.rule_book.specs.History.{in_gameweek}
use Rattle.rule_book.specs.History.Deed.{Lineup}
use Rattle.season_ledger.specs.declared.row.Row.{Row}
use Rattle.season_ledger.specs.Rows.{IsKept, IsFit}
use Rattle.season_ledger.specs.Batches.{players_of}
use Rattle.season_ledger.specs.Stands.{StandsFor}
use Rattle.season_ledger.proofs.Season.{on_ok_to, kept_put, lineup_fit, lineup_early, lined_up_for}
use Rattle.season_ledger.proofs.entry.Entry.lineup.Goals as goal

pub write-requires : goal.write-requires
write-requires c = let k : IsKept c.args.self.now = search rules in
    kept_put c.args.self.now c.args.g (record { made = c.made.result; team = c.args.after.now }) k c.requires.later (lineup_early c.args.self.now c.args.g c.args.after.now k c.requires.lineup)
    (subst (λ n. IsFit c.args.g (record { made = n; team = c.args.after.now })) (sym c.made.ensures.rows) (lineup_fit c.args.self.now c.args.g c.args.after.now k c.requires.lineup c.requires.fit))

pub returns-clause-history : goal.returns-clause-history
returns-clause-history c position h p st = let k : IsKept c.args.self.now = search rules in on_ok_to c.write.result _ _
    (λ e. subst (λ (rows : List Row). StandsFor position rows (h ++ in_gameweek c.args.g (Lineup (players_of c.args.after.now) c.args.after.now.captain c.args.after.now.vice ∷ []))) (sym e)
    (lined_up_for c.args.self.now c.args.g (record { made = c.made.result; team = c.args.after.now }) k c.requires.later c.requires.lineup c.made.ensures.rows position h p st))
    c.write.ensures.ok
