use Rattle.std.proofs.Common.{◌≡◌, ◌∙◌, List, ap, arith, subst, sym, get_or}
use Rattle.std.proofs.lemmas.Int.{ints}
use Rattle.std.proofs.lemmas.List.{take_all}
use Rattle.rule_book.specs.FigureRange.{IsWithin}
use Rattle.rule_book.specs.HeadToHead.{total_of}
use Rattle.squad_rules.specs.declared.pools.Candidate.{Candidate}
use Rattle.squad_rules.proofs.Collecting.{one_summed, points_in}
use Rattle.squad_rules.proofs.formations.total_of.Goals as goal

pub overflow_add-total : goal.overflow_add-total
overflow_add-total c =
    let inv = c.loop-candidate.invariant in
    let item = c.candidate-item in
    let near : IsWithin 1000000 item.result.points.0 = subst (λ (x : Candidate). IsWithin 1000000 x.points.0) (sym item.is) (c.requires.near c.loop-candidate.candidate-index item.result c.loop-candidate-test.true) in
    omega (arith, ints, inv.low, inv.high, near.0, near.1)

pub loop-candidate-preserved : goal.loop-candidate-preserved
loop-candidate-preserved c =
    let inv = c.loop-candidate.invariant in
    let item = c.candidate-item in
    let candidates = c.args.candidates.now in
    let at = c.loop-candidate.candidate-index in
    let near : IsWithin 1000000 item.result.points.0 = subst (λ (x : Candidate). IsWithin 1000000 x.points.0) (sym item.is) (c.requires.near at item.result c.loop-candidate-test.true) in
    let more = one_summed candidates at item.result c.loop-candidate-test.true in
    let same : item.result.points.0 ≡ (get_or candidates at item.result).points.0 = ap (λ (x : Candidate). x.points.0) item.is in
    record {
      so_far = omega (arith, ints, inv.so_far, more, same);
      low = omega (arith, ints, inv.low, near.0);
      high = omega (arith, ints, inv.high, near.1);
    }

pub returns-clause-value : goal.returns-clause-value
returns-clause-value c =
    c.loop-candidate.invariant.so_far
    ∙ ap (λ (l : List Candidate). total_of (points_in l)) (take_all c.loop-candidate.candidate-index c.args.candidates.now (omega arith))

pub returns-clause-near : goal.returns-clause-near
returns-clause-near c =
    let inv = c.loop-candidate.invariant in
    (omega (arith, ints, inv.low), omega (arith, ints, inv.high))
