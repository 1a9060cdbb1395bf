use Rattle.std.proofs.Common.{◌≡◌, ◌++◌, ◌∷◌, List, [], Some, rules, sym, subst, ap, ◌∙◌}
use Rattle.rule_book.specs.History.{in_gameweek}
use Rattle.rule_book.specs.History.Deed.{Play}
use Rattle.season_ledger.specs.declared.row.Row.{Row}
use Rattle.season_ledger.specs.Rows.{IsKept, standing_at, put_row, put_chip, put_chip_on, chipped}
use Rattle.season_ledger.specs.Stands.{StandsFor}
use Rattle.season_ledger.proofs.Season.{on_ok_to, kept_put, standing_fit, fit_chip, played_for}
use Rattle.season_ledger.proofs.entry.Entry.play_chip.Goals as goal

pub write-requires : goal.write-requires
write-requires c = let k : IsKept c.args.self.now = search rules in
    kept_put c.args.self.now c.args.g (chipped c.args.chip c.in-Some.standing) k c.requires.later c.requires.early
    (fit_chip c.args.g c.args.chip c.in-Some.standing (standing_fit c.args.self.now c.args.g k (Some c.in-Some.standing) (search rules)))

pub returns-clause-history : goal.returns-clause-history
returns-clause-history c position h st = let k : IsKept c.args.self.now = search rules in
    let t : standing_at c.args.self.now c.args.g ≡ Some c.in-Some.standing = search rules in
    let m : put_chip c.args.self.now c.args.g c.args.chip ≡ put_row c.args.self.now c.args.g (chipped c.args.chip c.in-Some.standing) = ap (put_chip_on c.args.self.now c.args.g c.args.chip) t in
    on_ok_to c.write.result _ _
    (λ e. subst (λ (rows : List Row). StandsFor position rows (h ++ in_gameweek c.args.g (Play c.args.chip ∷ []))) (m ∙ sym e)
    (played_for c.args.self.now c.args.g c.args.chip k c.requires.later c.requires.free c.requires.early position h st))
    c.write.ensures.ok
