use Rattle.std.proofs.Common.{◌≡◌, ℕ, ◌<◌, ◌+◌, ◌∷◌, ◌∙◌, ap, sym, subst, arith, suc, take, drop, get_or, take_all}
use Rattle.std.specs.List.{sum_by}
use Rattle.std.proofs.lemmas.List.Sums.{sum_by_more}
use Rattle.std.proofs.Math.Seq.{drop-cons}
use Rattle.season_ledger.specs.declared.row.Row.{Row}
use Rattle.season_ledger.specs.Rows.{AllAbove, Rise}
use Rattle.season_ledger.proofs.Counting.{counted_row, one_pass, rises}
use Rattle.season_ledger.proofs.transfers.counted_of.Goals as goal

pub loop-row-preserved : goal.loop-row-preserved
loop-row-preserved c =
    let rows = c.args.rows.now in
    let i = c.loop-row.row-index in
    let row = c.row-item.result in
    let split : drop i rows ≡ row ∷ drop (suc i) rows = drop-cons rows i row c.loop-row-test.true ∙ ap (λ y. y ∷ drop (suc i) rows) (sym c.row-item.is) in
    let rise : Rise (row ∷ drop (suc i) rows) = subst Rise split c.loop-row.invariant.rise in
    let next : suc i ≡ i + 1 = omega arith in
    let behind : AllAbove row.gw (drop (i + 1) rows) × Rise (drop (i + 1) rows) = subst (λ k. AllAbove row.gw (drop k rows) × Rise (drop k rows)) next (rise.0, rise.1) in
    let f : Row → ℕ = counted_row c.args.first c.args.g in
    let more : sum_by f (take (i + 1) rows) ≡ sum_by f (take i rows) + f (get_or rows i row) = sum_by_more f rows i row c.loop-row-test.true in
    let here : c.from-sum.result ≡ f (get_or rows i row) = c.from-sum.ensures ∙ c.counted_row.ensures ∙ ap f c.row-item.is in
    let up : c.loop-row.last < c.get-last.result = rises c.loop-row.last c.get-last.result
    (λ some. subst (λ w. c.loop-row.last < w) (sym c.get-last.ensures.value) (subst (AllAbove c.loop-row.last) split (c.loop-row.invariant.above some)).0) (omega arith) in record {
      value = let so_far : c.loop-row.sum ≡ sum_by f (take i rows) = c.loop-row.invariant.value in omega arith;
      low = omega arith;
      bound = omega arith;
      above = λ some. subst (λ w. AllAbove w (drop (i + 1) rows)) (sym c.get-last.ensures.value) behind.0;
      rise = behind.1;
    }

pub overflow_add-sum : goal.overflow_add-sum
overflow_add-sum c = omega arith

pub returns : goal.returns
returns c = c.loop-row.invariant.value ∙ ap (sum_by (counted_row c.args.first c.args.g)) (take_all c.loop-row.row-index c.args.rows.now c.loop-row-test.false)
    ∙ one_pass c.args.rows.now c.requires.rise c.args.first c.args.g
