use Rattle.std.proofs.Common.{◌∙◌, ap, subst, sym}
use Rattle.std.proofs.lemmas.List.Sums.{fold_more}
use Rattle.season_records.specs.ItemReading.{item_of}
use Rattle.season_book.specs.Book.{Facts}
use Rattle.season_restoring.specs.Restored.{FitsSpelled, with_row}
use Rattle.season_restoring.proofs.restoring.with_rows.Goals as goal

pub take_row-requires : goal.take_row-requires
take_row-requires c =
    let row = c.row-item.result in
    subst (λ (facts : Facts). FitsSpelled facts (item_of row.0 row.1)) (sym c.rows.invariant) (c.requires c.rows.row-index row c.rows-test.true c.row-item.is)

pub rows-preserved : goal.rows-preserved
rows-preserved c =
    let row = c.row-item.result in
    c.in_ok-take_row.ensures
    ∙ (ap (λ (facts : Facts). with_row facts row) c.rows.invariant
    ∙ (ap (with_row _) c.row-item.is ∙ sym (fold_more with_row c.args.begun c.args.rows.now c.rows.row-index row c.rows-test.true)))
