use Rattle.std.proofs.Common.{sym, subst, ap, ◌∙◌}
use Rattle.score_sheet.proofs.ScoreLists.{text_more}
use Rattle.rule_book.specs.Bonus.{bonus_of}
use Rattle.rule_book.specs.Figures.{IsLine}
use Rattle.rule_book.specs.declared.line.Appearance.{Appearance}
use Rattle.score_sheet.proofs.scores.text_of.Goals as goal

pub bonus_at-won-requires : goal.bonus_at-won-requires
bonus_at-won-requires c =
    let P : Appearance → Type 0 = λ row. IsLine row.line in
    subst P (sym c.row-item.is) (c.requires c.loop-row.row-index c.row-item.result c.loop-row-test.true)

pub line_of-requires-clause-line : goal.line_of-requires-clause-line
line_of-requires-clause-line c =
    let P : Appearance → Type 0 = λ row. IsLine row.line in
    subst P (sym c.row-item.is) (c.requires c.loop-row.row-index c.row-item.result c.loop-row-test.true)

pub loop-row-preserved : goal.loop-row-preserved
loop-row-preserved c =
    let won = c.bonus_at-won.ensures.value c.args.rows.now (λ own. c.of-levels.ensures own ∙ ap (λ table. bonus_of table own) (c.as_slice.ensures.value ∙ c.in_ok-table.ensures)) in
    text_more c.args.profile c.args.rows.now c.loop-row.row-index c.row-item.result _ _ _ c.bonus_at-won.result c.loop-row-test.true c.row-item.is
    c.in_ok-push_str.ensures.bytes (c.as_str.ensures.value ∙ c.in_ok-line.ensures) won c.loop-row.invariant
