use Rattle.std.proofs.Common.{◌≡◌, sym, subst, Contains, All, arith, rules, true}
use Rattle.std.proofs.lemmas.List.{take_all}
use Rattle.std.proofs.lemmas.List.Elements.{All-more}
use Rattle.std.proofs.lemmas.List.Sorted.{length_permutation}
use Rattle.rule_book.specs.HeadToHead.{IsDraw}
use Rattle.leagues_and_cups.proofs.DrawLemmas.{order_of_all, all_of_draw, has_decides, draw_is_right}
use Rattle.leagues_and_cups.proofs.head_draw.check_order.Goals as goal

pub returns-then-order-members-clause-wrong : goal.returns-then-order-members-clause-wrong
returns-then-order-members-clause-wrong c draw =
    omega (arith, length_permutation c.args.members.now c.args.order.now draw.1)

pub returns-then-not-contains-clause-wrong : goal.returns-then-not-contains-clause-wrong
returns-then-not-contains-clause-wrong c draw =
    let order = c.args.order.now in
    let m = c.member-item.result in
    let there = all_of_draw order c.args.members.now draw c.loop-member.member-index m c.loop-member-test.true in
    let found = (has_decides order m c.contains.result c.contains.ensures.cases).1 (subst (Contains order) (sym c.member-item.is) there) in
    cc (found, c.if-not-contains.true)

pub loop-member-preserved : goal.loop-member-preserved
loop-member-preserved c =
    let order = c.args.order.now in
    let m = c.member-item.result in
    let found : c.contains.result ≡ true = search rules in
    let here = subst (Contains order) c.member-item.is ((has_decides order m c.contains.result c.contains.ensures.cases).0 found) in
    All-more (Contains order) c.args.members.now c.loop-member.member-index m c.loop-member-test.true c.loop-member.invariant here

placed : (c : goal.After-loop-member) → IsDraw c.args.order.now c.args.members.now
placed c =
    let members = c.args.members.now in
    let order = c.args.order.now in
    let all = subst (All (Contains order)) (take_all c.loop-member.member-index members (omega arith)) c.loop-member.invariant in
    (omega arith, order_of_all members order c.requires.differ (omega arith) all)

pub returns-clause-draw : goal.returns-clause-draw
returns-clause-draw c = placed c

pub returns-clause-judged : goal.returns-clause-judged
returns-clause-judged c = draw_is_right c.args.order.now c.args.members.now c.requires.differ (placed c)
