use Rattle.std.proofs.Common.{◌≡◌, ◌+◌, ◌*◌, ℕ, of_z, rules, subst, to_z, w32, w64}
use Rattle.squad_rules.specs.Dreams.{IsGreatestTotal}
use Rattle.rule_book.specs.FigureRange.{IsWithin}
use Rattle.fpl_drafting.specs.Totals.{IsTotal, rows_at}
use Rattle.fpl_drafting.proofs.TotalLemmas.{total_more, within_more}
use Rattle.fpl_drafting.proofs.totals.total_of.Goals as goal

pub loop-place-preserved : goal.loop-place-preserved
loop-place-preserved c =
    let at = c.loop-place in
    let sum = c.with_score-total.result in
    let same : to_z w64 (of_z w64 sum) ≡ sum = search rules in
    let plain : to_z w32 (of_z w32 c.in_ok-score.score) ≡ c.in_ok-score.score = search rules in
    let score = subst (λ (g : ℕ). IsGreatestTotal (rows_at c.args.draft.now c.args.told.now c.args.member g) c.in_ok-score.score) c.gameweek_behind.ensures c.in_ok-score.ensures in
    let total : IsTotal c.args.draft.now c.args.told.now c.args.member (at.place + 1) sum =
    total_more c.args.draft.now c.args.told.now c.args.member at.place _ c.in_ok-score.score sum at.invariant.0 score (rw plain at c.with_score-total.ensures.sum) in
    let within : IsWithin (2147483648 * (at.place + 1)) sum = within_more at.place _ sum at.invariant.1 c.with_score-total.ensures.near in
    rw same (total, within)
