use Rattle.std.proofs.Common.{◌≡◌, ◌∙◌, ap, not, sym, true, get_or, Some}
use Rattle.std.specs.Option.{option_map}
use Rattle.stored_records.proofs.Loops.{fail_more, found_first, none_found}
use Rattle.store_validation.specs.Lawful.{is_spelled}
use Rattle.store_validation.proofs.judging.first_not_spelled.Goals as goal

pub returns-then-not-is_spelled : goal.returns-then-not-is_spelled
returns-then-not-is_spelled c =
    let row = c.row-item.result in
    let wrong : not (is_spelled (get_or c.args.rows.now c.loop-row.row-index row)) ≡ true = ap (λ r. not (is_spelled r)) (sym c.row-item.is) ∙ ap not (sym c.is_spelled.ensures ∙ c.if-not-is_spelled.true) in
    ap Some c.key.ensures ∙ (ap (λ r. Some r.0) c.row-item.is
    ∙ sym (ap (option_map (λ row. row.0)) (found_first (λ row. not (is_spelled row)) c.args.rows.now c.loop-row.row-index row c.loop-row-test.true c.loop-row.invariant wrong)))

pub loop-row-preserved : goal.loop-row-preserved
loop-row-preserved c =
    fail_more (λ row. not (is_spelled row)) c.args.rows.now c.loop-row.row-index c.row-item.result c.loop-row-test.true c.loop-row.invariant c.row-item.is (ap not (sym c.is_spelled.ensures ∙ c.if-not-is_spelled.false))

pub returns : goal.returns
returns c = sym (ap (option_map (λ row. row.0)) (none_found (λ row. not (is_spelled row)) c.args.rows.now c.loop-row.row-index c.loop-row-test.false c.loop-row.invariant))
