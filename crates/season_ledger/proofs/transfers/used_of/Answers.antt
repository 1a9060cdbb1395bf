use Rattle.std.proofs.Common.{◌≡◌, ◌<◌, ◌≤◌, ◌-◌, ℕ, true, Option, Some, None, arith, rules, sym, ap, ◌∙◌, subst}
use Rattle.std.specs.Prelude.{IsSome, IfSome}
use Rattle.rule_book.specs.HistoryTransfers.{chip_among, half_of, is_same_chip}
use Rattle.season_ledger.specs.Rows.{chip_by}
use Rattle.squad_rules.proofs.ChipsPlayed.{among_found}
use Rattle.season_ledger.proofs.transfers.used_of.Goals as goal

some_of : (o : Option ℕ) (w : ℕ) → IsSome o → IfSome o (λ g. g ≡ w) → o ≡ Some w
some_of None w s v = cc
some_of (Some g) w s v = ap Some v

pub returns-then-is_same_chip : goal.returns-then-is_same_chip
returns-then-is_same_chip c =
    let le : c.half_of-from.result ≤ c.loop-w.w = omega arith in
    let lt : c.loop-w.w < c.args.g = search rules in
    let up : c.args.g ≤ 38 = omega arith in
    let t : is_same_chip c.args.chip (chip_by c.args.rows.now c.loop-w.w) ≡ true = search rules in
    let r : c.new.result ≡ Some c.loop-w.w = some_of c.new.result c.loop-w.w (search rules) (search rules) in
    let e : c.half_of-from.result ≡ half_of c.args.split c.args.chip c.args.g = search rules in
    r ∙ sym (subst (λ f. chip_among (chip_by c.args.rows.now) c.args.chip f (c.args.g - f) ≡ Some c.loop-w.w) e (among_found (chip_by c.args.rows.now) c.args.chip c.half_of-from.result c.loop-w.w c.args.g le lt c.loop-w.invariant t))
