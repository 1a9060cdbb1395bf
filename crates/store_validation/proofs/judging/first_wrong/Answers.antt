use Rattle.std.proofs.Common.{◌≡◌, ◌∙◌, ap, find, get_or, sym, Some, true}
use Rattle.std.specs.Option.{option_map}
use Rattle.stored_records.proofs.Loops.{fail_more, found_first, none_found}
use Rattle.store_validation.specs.Lawful.{is_wrong}
use Rattle.store_validation.proofs.judging.first_wrong.Goals as goal

pub returns-then-is_wrong : goal.returns-then-is_wrong
returns-then-is_wrong c =
    let row = c.row-item.result in
    let rows = c.as_slice-row-items.result.now in
    let wrong : is_wrong c.args.stored.now (get_or rows c.loop-row.row-index row) ≡ true = ap (is_wrong c.args.stored.now) (sym c.row-item.is) ∙ (sym c.is_wrong.ensures.wrong ∙ c.if-is_wrong.true) in
    ap Some c.key.ensures ∙ (ap (λ r. Some r.0) c.row-item.is
    ∙ sym (sym (ap (λ all. option_map (λ row. row.0) (find (is_wrong c.args.stored.now) all)) c.as_slice-row-items.ensures.rows) ∙ ap (option_map (λ row. row.0)) (found_first (is_wrong c.args.stored.now) rows c.loop-row.row-index row c.loop-row-test.true c.loop-row.invariant.0 wrong)))

pub loop-row-preserved : goal.loop-row-preserved
loop-row-preserved c = (
  fail_more (is_wrong c.args.stored.now) c.as_slice-row-items.result.now c.loop-row.row-index c.row-item.result c.loop-row-test.true c.loop-row.invariant.0 c.row-item.is (sym c.is_wrong.ensures.wrong ∙ c.if-is_wrong.false),
  c.is_wrong.ensures.known,
)

pub returns : goal.returns
returns c =
    sym (sym (ap (λ all. option_map (λ row. row.0) (find (is_wrong c.args.stored.now) all)) c.as_slice-row-items.ensures.rows) ∙ ap (option_map (λ row. row.0)) (none_found (is_wrong c.args.stored.now) c.as_slice-row-items.result.now c.loop-row.row-index c.loop-row-test.false c.loop-row.invariant.0))
