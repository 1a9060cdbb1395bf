use Rattle.std.proofs.Common.{◌≡◌, ◌<◌, ◌+◌, ◌/◌, ◌^◌, length, arith, ◌∙◌}
use Rattle.rule_book.specs.Cups.{winner}
use Rattle.season_graph.specs.Told.{side_told}
use Rattle.season_views.proofs.CupRounds.{tie_shown}
use Rattle.season_rules.proofs.Lists.{range_more}
use Rattle.season_views.proofs.cups.winners_held.Goals as goal

pub loop-place-preserved : goal.loop-place-preserved
loop-place-preserved g c =
    let bracket = c.args.bracket.now in
    let round = c.args.round in
    let place = c.loop-place.place in
    let zero_more : 0 + place ≡ place = omega arith in
    let low : place < length bracket.slots / 2 ^ (round + 1) = omega (arith, c.loop-place-test.true, c.ties-count.ensures) in
    record {
      value = λ b evaluated at played.
          range_more (winner bracket (side_told b) (round + 1)) 0 place place c.tie_held.result c.loop-place.winners c.push.new.self zero_more
          (c.tie_held.ensures.value b evaluated ∙ tie_shown b c.args.id round place bracket at played low)
          (c.loop-place.invariant.value b evaluated at played) c.in_ok-push.ensures.ok;
      cost = let before = c.loop-place.invariant.cost in let one = c.tie_held.ensures.cost in omega (arith, before, one);
    }
