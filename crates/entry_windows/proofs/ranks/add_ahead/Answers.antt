use Rattle.std.proofs.Common.{◌≡◌, ◌<◌, ◌∙◌, arith, length, of_z, rules, to_z, w32}
use Rattle.std.proofs.lemmas.Int.{ints}
use Rattle.entry_windows.specs.Courses.{ahead_by}
use Rattle.entry_windows.proofs.Places.{all_few, few_at, raised_at, rest_at}
use Rattle.entry_windows.proofs.ranks.add_ahead.Goals as goal

pub loop-passed-preserved : goal.loop-passed-preserved
loop-passed-preserved g c =
    let facts = c.args.seen.now.facts in
    let passed = c.loop-passed.passed in
    let inv = c.loop-passed.invariant in
    let old = c.args.ranks.now in
    let ranks = c.loop-passed.ranks in
    let low : passed < 38 = search rules in
    let within : passed < length ranks = omega (arith, low, inv.long) in
    let raised = c.ahead.result in
    let now : to_z w32 (of_z w32 c.total_with-total.result) ≡ c.total_with-total.result = search rules in
    let near = c.total_with-total.ensures.near in
    record {
      done = λ h stands.
          raised_at old ranks passed c.from.result raised (ahead_by facts h c.args.course.now) c.from.ensures within inv.rest
          (c.ahead.ensures.value h stands (now ∙ c.total_with-total.ensures.value h stands (inv.total h stands))) (inv.done h stands);
      rest = rest_at old ranks passed c.from.result raised (λ k. 0) c.from.ensures within inv.rest;
      total = λ h stands. now ∙ c.total_with-total.ensures.value h stands (inv.total h stands);
      near = (omega (arith, ints, near.0, now), omega (arith, ints, near.1, now));
      few = few_at old ranks passed c.from.result raised (λ k. 0) c.from.ensures within inv.rest c.ahead.ensures.few inv.few;
      long = search rules;
      cost = let before = inv.cost in let one = c.total_with-total.ensures.cost in let two = c.ahead.ensures.cost in omega (arith, before, one, two);
    }

pub returns-clause-few : goal.returns-clause-few
returns-clause-few g c n all = all_few c.args.ranks.now c.loop-passed.ranks n c.loop-passed.invariant.long c.loop-passed.invariant.few all
