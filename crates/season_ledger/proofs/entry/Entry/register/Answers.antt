use Rattle.std.proofs.Common.{◌++◌, ◌∷◌, List, [], arith, rules, sym, subst, refl}
use Rattle.rule_book.specs.History.{in_gameweek}
use Rattle.rule_book.specs.History.Deed.{First}
use Rattle.rule_book.specs.HistoryTeam.{holdings}
use Rattle.season_ledger.specs.declared.row.Row.{Row}
use Rattle.season_ledger.specs.Rows.{AllUpTo, IsKept}
use Rattle.season_ledger.specs.Stands.{StandsFor}
use Rattle.season_ledger.proofs.Season.{on_ok_to, kept_put, first_fit, first_early, registered_for}
use Rattle.season_ledger.proofs.entry.Entry.register.Goals as goal

pub returns-clause-history : goal.returns-clause-history
returns-clause-history c position h p st = on_ok_to c.write.result _ _
    (λ e. subst (λ (rows : List Row). StandsFor position rows (h ++ in_gameweek c.args.g (First (holdings c.args.team.now.picks) c.args.team.now.captain c.args.team.now.vice ∷ []))) (sym e)
    (registered_for c.args.self.now c.args.g (record { made = 0; team = c.args.team.now }) c.requires.new c.requires.team refl position h p st))
    c.write.ensures.ok

pub write-requires : goal.write-requires
write-requires c = let k : IsKept c.args.self.now = search rules in
    kept_put c.args.self.now c.args.g (record { made = 0; team = c.args.team.now }) k (subst (AllUpTo c.args.g) (sym c.requires.new) tt) (first_early c.args.team.now c.args.self.now c.args.g c.requires.team)
    (first_fit c.args.g c.args.team.now (omega arith) c.requires.team c.requires.fit)
