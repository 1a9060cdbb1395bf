use Rattle.std.proofs.Common.{◌≡◌, ◌+◌, arith}
use Rattle.rule_book.specs.CupRounds.{locked_winners}
use Rattle.season_book.specs.LeagueViews.{side_in}
use Rattle.season_views.proofs.Counted.{round_read, rounds_read}
use Rattle.season_rules.proofs.Lists.{range_more}
use Rattle.season_views.proofs.cups.cup.Goals as goal

pub loop-round-preserved : goal.loop-round-preserved
loop-round-preserved g c =
    let facts = c.args.seen.now.facts in
    let b = c.args.bracket.now in
    let round = c.loop-round.round in
    let locked = facts.calendar.locked in
    let next : 1 + round ≡ round + 1 = omega arith in
    record {
      shown = λ entries are.
          range_more (locked_winners b (side_in facts entries) locked) 1 round (round + 1) _ c.loop-round.shown _ next
          (c.in_ok-winners.ensures.value entries are) (c.loop-round.invariant.shown entries are) c.in_ok-push.ensures.ok;
      cost = λ entries are.
          round_read b (side_in facts entries) locked round _ _ _ (c.loop-round.invariant.cost entries are) (c.winners_shown.ensures.cost entries are);
    }

pub returns-in_err-winners-clause-cost : goal.returns-in_err-winners-clause-cost
returns-in_err-winners-clause-cost g c entries are =
    let b = c.args.bracket.now in
    let locked = c.args.seen.now.facts.calendar.locked in
    let round = c.loop-round.round in
    rounds_read b (side_in c.args.seen.now.facts entries) locked (round + 1) _ _ (omega (arith, c.loop-round-test.true, c.rounds-round-end.ensures.value))
    (round_read b (side_in c.args.seen.now.facts entries) locked round _ _ _ (c.loop-round.invariant.cost entries are) (c.winners_shown.ensures.cost entries are))

pub returns-in_err-push-clause-cost : goal.returns-in_err-push-clause-cost
returns-in_err-push-clause-cost g c entries are =
    let b = c.args.bracket.now in
    let locked = c.args.seen.now.facts.calendar.locked in
    let round = c.loop-round.round in
    rounds_read b (side_in c.args.seen.now.facts entries) locked (round + 1) _ _ (omega (arith, c.loop-round-test.true, c.rounds-round-end.ensures.value))
    (round_read b (side_in c.args.seen.now.facts entries) locked round _ _ _ (c.loop-round.invariant.cost entries are) (c.winners_shown.ensures.cost entries are))
