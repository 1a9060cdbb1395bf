use Rattle.std.proofs.Common.{◌≡◌, ◌<◌, ◌++◌, ◌∷◌, List, [], Some, length, rules, sym, subst, ap, ◌∙◌}
use Rattle.fpl_base.specs.declared.kinds.Chip.TheVariants.{None as NoChip}
use Rattle.rule_book.specs.History.{in_gameweek}
use Rattle.rule_book.specs.History.Deed.{Cancel}
use Rattle.season_ledger.specs.declared.row.Row.{Row}
use Rattle.season_ledger.specs.Rows.{IsKept, standing_at, put_row, put_chip, put_chip_on, chipped, place_at}
use Rattle.season_ledger.specs.Stands.{StandsFor}
use Rattle.season_ledger.proofs.Season.{kept_put, standing_fit, fit_chip, cancelled_for, cancel_there}
use Rattle.season_ledger.proofs.entry.Entry.cancel_chip.Goals as goal

pub put_in_place-requires : goal.put_in_place-requires
put_in_place-requires c =
    let e : c.args.self.now ≡ c.self.inside.rows.items = search rules in
    subst (λ (rows : List Row). place_at rows c.args.g < length rows) e (cancel_there c.args.self.now c.args.g c.requires.played)

pub invariant_of-self : goal.invariant_of-self
invariant_of-self c =
    let t : standing_at c.args.self.now c.args.g ≡ Some c.in-Some.standing = search rules in
    let k : IsKept c.args.self.now = search rules in
    let e : c.put_in_place.new.rows.items ≡ put_row c.args.self.now c.args.g (chipped NoChip c.in-Some.standing) = search rules in
    rw e (kept_put c.args.self.now c.args.g (chipped NoChip c.in-Some.standing) k c.requires.later (λ x. cc)
    (fit_chip c.args.g NoChip c.in-Some.standing (standing_fit c.args.self.now c.args.g k (Some c.in-Some.standing) t)))

pub returns-in-Some-clause-history : goal.returns-in-Some-clause-history
returns-in-Some-clause-history c position h st =
    let t : standing_at c.args.self.now c.args.g ≡ Some c.in-Some.standing = search rules in
    let k : IsKept c.args.self.now = search rules in
    let e : c.put_in_place.new.rows.items ≡ put_row c.args.self.now c.args.g (chipped NoChip c.in-Some.standing) = search rules in
    let m : put_chip c.args.self.now c.args.g NoChip ≡ put_row c.args.self.now c.args.g (chipped NoChip c.in-Some.standing) = ap (put_chip_on c.args.self.now c.args.g NoChip) t in
    subst (λ (rows : List Row). StandsFor position rows (h ++ in_gameweek c.args.g (Cancel ∷ []))) (m ∙ sym e)
    (cancelled_for c.args.self.now c.args.g k c.requires.later c.requires.played position h st)
