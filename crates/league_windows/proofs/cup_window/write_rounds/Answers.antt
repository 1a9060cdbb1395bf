use Rattle.std.proofs.Common.{◌≡◌, ◌≤◌, ◌∙◌, ◌+◌, ◌++◌, [], ◌∷◌, List, ap, arith, rules, sym}
use Rattle.std.specs.List.{range_with_len}
use Rattle.json.specs.Token.{Token}
use Rattle.rule_book.specs.CupRounds.{rounds_of}
use Rattle.season_book.specs.LeagueViews.{side_in}
use Rattle.season_book.specs.CupWindow.{round_row}
use Rattle.league_windows.specs.RowTokens.{row_tokens}
use Rattle.league_windows.proofs.RowsWritten.{one_row, range_one_more, rows_ended, rows_more}
use Rattle.league_windows.proofs.TiesRead.{round_reads, rounds_reads}
use Rattle.league_windows.proofs.cup_window.write_rounds.Goals as goal

pub loop-round-preserved : goal.loop-round-preserved
loop-round-preserved g c =
    let facts = c.args.seen.now.facts in
    let b = c.args.bracket.now in
    let round = c.loop-round.round in
    let base : List Token = c.args.out.now.tokens ++ Token.begin_array ∷ [] in
    let at : 0 + round ≡ round = omega arith in
    record {
      tokens = λ entries are.
          let row = round_row facts entries b in
          rows_more row base (range_with_len 0 round) (round ∷ []) (one_row row round (c.in_ok-write_round.ensures.value entries are)) (c.loop-round.invariant.tokens entries are)
          ∙ ap (λ s. base ++ row_tokens row s) (sym (range_one_more 0 round round at));
      before = λ entries are. (c.in_ok-write_round.ensures.value entries are).before ∙ c.loop-round.invariant.before entries are;
      cost = λ entries are.
          round_reads b (side_in facts entries) facts.calendar.locked round c.args.steps.now c.loop-round.steps c.write_round.new.steps (c.loop-round.invariant.cost entries are)
          (c.write_round.ensures.cost entries are);
    }

pub returns-in_err-write_round-clause-value : goal.returns-in_err-write_round-clause-value
returns-in_err-write_round-clause-value g c = λ entries are. record {
  tokens = search rules;
  before = (c.in_err-write_round.ensures.value entries are).before ∙ c.loop-round.invariant.before entries are;
}

pub returns-in_err-write_round-clause-cost : goal.returns-in_err-write_round-clause-cost
returns-in_err-write_round-clause-cost g c = λ entries are.
    let facts = c.args.seen.now.facts in
    let b = c.args.bracket.now in
    let round = c.loop-round.round in
    let few : round + 1 ≤ rounds_of b = omega (arith, c.loop-round-test.true, c.rounds-round-end.ensures.value) in
    rounds_reads b (side_in facts entries) facts.calendar.locked (round + 1) c.args.steps.now c.write_round.new.steps few
    (round_reads b (side_in facts entries) facts.calendar.locked round c.args.steps.now c.loop-round.steps c.write_round.new.steps (c.loop-round.invariant.cost entries are)
    (c.write_round.ensures.cost entries are))

pub returns-clause-value : goal.returns-clause-value
returns-clause-value g c = λ entries are.
    let b = c.args.bracket.now in
    let round = c.loop-round.round in
    let base : List Token = c.args.out.now.tokens ++ Token.begin_array ∷ [] in
    let row = round_row c.args.seen.now.facts entries b in
    let all : round ≡ rounds_of b = omega (arith, c.loop-round-test.false, c.loop-round.auto.round-end, c.rounds-round-end.ensures.value) in
    rows_ended row (range_with_len 0 (rounds_of b)) c.end_array.ensures
    (c.loop-round.invariant.tokens entries are ∙ ap (λ n. base ++ row_tokens row (range_with_len 0 n)) all) (c.loop-round.invariant.before entries are)

pub returns-clause-cost : goal.returns-clause-cost
returns-clause-cost g c = λ entries are.
    let facts = c.args.seen.now.facts in
    let b = c.args.bracket.now in
    let round = c.loop-round.round in
    let few : round ≤ rounds_of b = omega (arith, c.loop-round.auto.round-end, c.rounds-round-end.ensures.value) in
    rounds_reads b (side_in facts entries) facts.calendar.locked round c.args.steps.now c.loop-round.steps few (c.loop-round.invariant.cost entries are)
