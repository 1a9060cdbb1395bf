use Rattle.std.proofs.Common.{◌≡◌, ◌<◌, Some, None, length, get_or, arith, rules, sym, ap, ◌∙◌}
use Rattle.std.proofs.lemmas.List.{length-set, get_or_default}
use Rattle.rule_book.specs.Batch.{pick_of}
use Rattle.manager_book.proofs.Lined.{lined_more, not_held_here, not_held_more}
use Rattle.manager_book.proofs.lineup.lined.Goals as goal

pub returns-in_default : goal.returns-in_default
returns-in_default c =
    let m : length c.args.order.now ≡ 15 = search rules in
    let t : c.loop-i.i < 15 = search rules in
    let lt : c.loop-i.i < length c.args.order.now = omega arith in
    let r : c.index-order-i.result ≡ get_or c.args.order.now c.loop-i.i c.index-order-i.result = search rules in
    let q : get_or c.args.order.now c.loop-i.i 0 ≡ c.index-order-i.result = get_or_default c.args.order.now c.loop-i.i 0 c.index-order-i.result lt ∙ sym r in
    let n : pick_of c.args.picks.now c.index-order-i.result ≡ None = search rules in
    sym c.loop-i.invariant.2 ∙ not_held_here c.args.picks.now c.args.order.now c.loop-i.i lt (ap (pick_of c.args.picks.now) q ∙ n) ∙ ap Some (get_or_default c.args.order.now c.loop-i.i 0 c.index-order-i-in_default.result lt)

pub loop-i-preserved : goal.loop-i-preserved
loop-i-preserved c =
    let l : length c.loop-i.lined ≡ 15 = c.loop-i.invariant.0 in
    let m : length c.args.order.now ≡ 15 = search rules in
    let t : c.loop-i.i < 15 = search rules in
    let lt : c.loop-i.i < length c.args.order.now = omega arith in
    let r : c.index-order-i.result ≡ get_or c.args.order.now c.loop-i.i c.index-order-i.result = search rules in
    let q : get_or c.args.order.now c.loop-i.i 0 ≡ c.index-order-i.result = get_or_default c.args.order.now c.loop-i.i 0 c.index-order-i.result lt ∙ sym r in
    let n : pick_of c.args.picks.now c.index-order-i.result ≡ Some c.in-Some.pick = search rules in
    let e : pick_of c.args.picks.now (get_or c.args.order.now c.loop-i.i 0) ≡ Some c.in-Some.pick = ap (pick_of c.args.picks.now) q ∙ n in (
      length-set _ _ _ ∙ l,
      lined_more c.args.picks.now c.loop-i.lined c.args.order.now c.loop-i.i c.in-Some.pick (omega arith) lt c.loop-i.invariant.1 e,
      not_held_more c.args.picks.now c.args.order.now c.loop-i.i c.in-Some.pick lt e ∙ c.loop-i.invariant.2,
    )
