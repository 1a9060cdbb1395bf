use Rattle.std.proofs.Common.{◌≡◌, ◌<◌, ◌+◌, ◌-◌, ◌∙◌, map, arith, ap, rules, subst, sym}
use Rattle.std.specs.List.{range_with_len, sum}
use Rattle.std.specs.Prelude.{IfSome}
use Rattle.rule_book.specs.HistoryTransfers.{swaps_in}
use Rattle.rule_book.specs.PlayerFigures.{position_in}
use Rattle.entry_windows.proofs.Transfers.{summed_one}
use Rattle.entry_windows.proofs.summary.transfers_after.Goals as goal

pub loop-passed-init : goal.loop-passed-init
loop-passed-init g c =
    let first = c.args.first in
    let is : c.get-passed.result ≡ first = c.get-passed.ensures.value in
    record {
      value = λ h stands. let none : c.get-passed.result - first ≡ 0 = omega (arith, is) in sym (ap (λ n. sum (map (swaps_in h) (range_with_len (first + 1) n))) none);
      few = omega arith;
      from = omega (arith, is);
      to = omega (arith, is);
      cost = omega arith;
    }

pub loop-passed-preserved : goal.loop-passed-preserved
loop-passed-preserved g c =
    let first = c.args.first in
    let passed = c.loop-passed.passed in
    let inv = c.loop-passed.invariant in
    let gw = c.unwrap.result in
    let next : gw ≡ passed + 1 = subst (λ o. IfSome o (λ n. n ≡ passed + 1)) c.unwrap.ensures c.new.ensures.value in
    let low : passed < c.args.seen.now.facts.calendar.locked = search rules in
    record {
      value = λ h stands.
          let longer : (passed + 1) - first ≡ (passed - first) + 1 = omega (arith, inv.from) in
          let at : (first + 1) + (passed - first) ≡ passed + 1 = omega (arith, inv.from) in
          let more = summed_one (swaps_in h) (first + 1) (passed - first) (passed + 1) at in
          let made = c.made.ensures.history (position_in c.args.seen.now.facts.players) h stands ∙ ap (swaps_in h) next in
          let before = inv.value h stands in
          let all = ap (λ n. sum (map (swaps_in h) (range_with_len (first + 1) n))) longer in
          omega (arith, more, made, before, all, c.from-transfers.ensures);
      few = omega (arith, inv.few, c.from-transfers.ensures);
      from = omega (arith, inv.from);
      to = omega (arith, low, inv.to);
      cost = omega (arith, inv.cost, inv.from, c.made.ensures.counted);
    }

pub returns-clause-value : goal.returns-clause-value
returns-clause-value g c = λ h stands.
    let first = c.args.first in
    let locked = c.args.seen.now.facts.calendar.locked in
    let passed = c.loop-passed.passed in
    let inv = c.loop-passed.invariant in
    let over : passed - first ≡ (locked + 1) - (first + 1) = search rules in
    inv.value h stands ∙ ap (λ n. sum (map (swaps_in h) (range_with_len (first + 1) n))) over
