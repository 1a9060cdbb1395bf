use Rattle.std.proofs.Common.{◌≡◌, ◌+ℤ◌, ℤ, drop, rules, arith, w32, FitsSigned, subst}
use Rattle.std.proofs.lemmas.Int.{ints}
use Rattle.season_generator.specs.Summaries.{sum_of}
use Rattle.season_generator.proofs.SumLemmas.{sum_more}
use Rattle.season_generator.proofs.table.sum_of.Goals as goal

pub loop-ranked-preserved : goal.loop-ranked-preserved
loop-ranked-preserved c =
    let inv = c.loop-ranked.invariant in
    let item = c.ranked-item in
    let fits : FitsSigned w32 item.result.row.total = search rules in
    let so_far = subst (λ (s : ℤ). s +ℤ sum_of (drop c.loop-ranked.ranked-index c.args.rows.now) ≡ sum_of c.args.rows.now) c.loop-ranked.sum-is inv.so_far in
    let more = sum_more c.args.rows.now c.loop-ranked.ranked-index item.result c.loop-ranked.sum (sum_of c.args.rows.now) (omega arith) item.is so_far in
    record { so_far = omega (arith, ints, more); low = omega (arith, ints); high = omega (arith, ints) }
