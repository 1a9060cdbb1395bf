use Rattle.std.proofs.Common.{◌≡◌, ◌<◌, ◌≤◌, ◌+◌, ◌*◌, ℕ, All, length, get_or, arith, refl, rules, subst}
use Rattle.std.specs.Prelude.{IfSome}
use Rattle.std.proofs.Math.Nat.{mul-le-mul_right}
use Rattle.std.proofs.lemmas.List.{get_or-replicate, take_all}
use Rattle.rule_book.specs.Players.{ArePlayers}
use Rattle.season_views.proofs.Numbered.{as_many, entry_numbered}
use Rattle.entry_windows.specs.Courses.{ahead_by, is_ahead}
use Rattle.entry_windows.specs.Races.{AreRanks}
use Rattle.entry_windows.proofs.Own.{of_entry}
use Rattle.entry_windows.proofs.Places.{counted_more, times_more}
use Rattle.entry_windows.proofs.ranks.ranks.Goals as goal

pub loop-place-init : goal.loop-place-init
loop-place-init g c =
    let few : c.args.through ≤ 38 = search rules in
    record {
      value = λ entries are gw low. get_or-replicate 38 gw 1 0 (omega (arith, low, few));
      few = λ k d within. let is = get_or-replicate 38 k 1 d (omega (arith, within)) in omega (arith, is);
      long = refl;
      cost = omega arith;
    }

pub loop-place-preserved : goal.loop-place-preserved
loop-place-preserved g c =
    let seen = c.args.seen.now in
    let course = c.args.course.now in
    let place = c.loop-place.place in
    let id = c.unwrap-other.result in
    let inv = c.loop-place.invariant in
    let next : id ≡ place + 1 = subst (λ o. IfSome o (λ n. n ≡ place + 1)) c.unwrap-other.ensures c.new.ensures.value in
    let number : 1 + place ≡ id = omega (arith, next) in
    let one : 1 ≤ id = omega (arith, next) in
    let below : place < length seen.managers.managers = omega (arith, c.loop-place-test.true, c.entries-place-end.ensures) in
    let lawful : ArePlayers seen.facts.players = subst ArePlayers c.players.ensures c.len-count.ensures.lawful in
    record {
      value = λ entries are gw low.
          let there = entry_numbered seen.facts.players seen.managers.managers entries place id are below number in
          let h = there.0.history in
          let through = c.args.through in
          let raised = of_entry seen.facts seen.managers entries id there.0
          (λ k. (p : ℕ) → p < through → get_or c.add_ahead.new.ranks p 0 ≡ get_or c.loop-place.ranks p 0 + ahead_by seen.facts k course p) lawful one are there.2 c.add_ahead.ensures.value gw low in
          let before = inv.value entries are gw low in
          let more = counted_more (λ entry. is_ahead seen.facts entry.history course gw) entries place there.0 there.1 in
          omega (arith, raised, before, more);
      few = subst (λ n. All (λ rank. rank ≤ n) c.add_ahead.new.ranks) (omega arith) (c.add_ahead.ensures.few (place + 1) inv.few);
      long = search rules;
      cost = let before = inv.cost in let more = c.add_ahead.ensures.cost in let times = times_more place (2 * c.args.through) in omega (arith, before, more, times);
    }

pub returns-clause-value : goal.returns-clause-value
returns-clause-value g c = λ entries are.
    let seen = c.args.seen.now in
    let many = as_many seen.facts.players seen.managers.managers entries are in
    let all : length entries ≤ c.loop-place.place = omega (arith, many, c.loop-place-test.false, c.entries-place-end.ensures) in
    subst (λ es. AreRanks seen.facts es c.args.course.now c.args.through c.loop-place.ranks) (take_all c.loop-place.place entries all) (c.loop-place.invariant.value entries are)

pub returns-clause-cost : goal.returns-clause-cost
returns-clause-cost g c =
    let seen = c.args.seen.now in
    let many : c.loop-place.place ≤ length seen.managers.managers = search rules in
    let times = mul-le-mul_right (2 * c.args.through) many in
    omega (arith, c.loop-place.invariant.cost, times)
