use Rattle.std.proofs.Common.{◌<◌, ◌≢◌, length, arith, below_more, get_or-set_other, get_or-set_same, ap, ◌∙◌, Some}
use Rattle.std.proofs.Math.ListN.{length-set}
use Rattle.score_sheet.proofs.row.figures_of.Goals as goal

pub loop-k-preserved : goal.loop-k-preserved
loop-k-preserved c =
    let lt : c.loop-k.k < length c.loop-k.figures = omega (arith, c.loop-k.invariant.0) in (
      rw length-set c.loop-k.invariant.0,
      below_more _ _
          (λ k h. let ne : k ≢ c.loop-k.k = omega arith in rw get_or-set_other (c.loop-k.invariant.1 k h))
          (rw get_or-set_same (omega (arith, c.in_ok-figure.ensures.0), c.field_of.ensures ∙ ap Some c.in_ok-figure.ensures.1)),
    )
