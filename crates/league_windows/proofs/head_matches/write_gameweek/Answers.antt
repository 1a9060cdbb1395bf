use Rattle.std.proofs.Common.{◌≡◌, ◌≤◌, ◌∙◌, ◌+◌, ◌-◌, ◌++◌, ap, arith, count_by, length, rules, subst, sym}
use Rattle.rule_book.specs.Calendar.{is_locked}
use Rattle.season_book.specs.HeadMatches.{match_row, stands_first}
use Rattle.league_windows.specs.RowTokens.{row_tokens}
use Rattle.league_windows.proofs.MatchesWritten.{first_matches, grows, if_first, if_written, place_more, place_read}
use Rattle.league_windows.proofs.RowsWritten.{rows_more}
use Rattle.league_windows.proofs.head_matches.write_gameweek.Goals as goal

pub write_if_first-requires : goal.write_if_first-requires
write_if_first-requires g c =
    let long = ap length c.order-order.ensures.value in record {
      kept = c.requires.kept;
      there = c.requires.there;
      since = c.requires.since;
      within = omega (arith, long, c.loop-place-test.true);
    }

pub loop-place-preserved : goal.loop-place-preserved
loop-place-preserved g c =
    let facts = c.args.seen.now.facts in
    let league = c.args.league.now in
    let gw = c.args.gameweek in
    let place = c.loop-place.place in
    let first = stands_first (length league.order) (gw - league.start) place in
    record {
      tokens = λ entries are.
          let row = match_row facts entries c.args.id league in
          rows_more row c.args.out.now.tokens (first_matches league gw place) (if_first first gw place) (if_written row first gw place (c.in_ok-write_if_first.ensures.value entries are))
          (c.loop-place.invariant.tokens entries are)
          ∙ ap (λ s. c.args.out.now.tokens ++ row_tokens row s) (sym (place_more league gw place));
      before = λ entries are. (c.in_ok-write_if_first.ensures.value entries are).before ∙ c.loop-place.invariant.before entries are;
      cost = place_read (λ row. is_locked facts.calendar row.0) league gw place c.args.steps.now c.loop-place.steps c.write_if_first.new.steps c.loop-place.invariant.cost c.write_if_first.ensures.cost;
    }

pub returns-in_err-write_if_first-clause-value : goal.returns-in_err-write_if_first-clause-value
returns-in_err-write_if_first-clause-value g c = λ entries are. record {
  tokens = search rules;
  before = (c.in_err-write_if_first.ensures.value entries are).before ∙ c.loop-place.invariant.before entries are;
}

pub returns-clause-value : goal.returns-clause-value
returns-clause-value g c = λ entries are.
    let league = c.args.league.now in
    let gw = c.args.gameweek in
    let long = ap length c.order-order.ensures.value in
    let all : c.loop-place.place ≡ length league.order = omega (arith, long, c.loop-place-test.false, c.loop-place.auto.place-end) in
    record {
      tokens = c.loop-place.invariant.tokens entries are ∙ ap (λ n. c.args.out.now.tokens ++ row_tokens (match_row c.args.seen.now.facts entries c.args.id league) (first_matches league gw n)) all;
      before = c.loop-place.invariant.before entries are;
    }

pub returns-clause-cost : goal.returns-clause-cost
returns-clause-cost g c =
    let facts = c.args.seen.now.facts in
    let league = c.args.league.now in
    let gw = c.args.gameweek in
    let long = ap length c.order-order.ensures.value in
    let all : c.loop-place.place ≡ length league.order = omega (arith, long, c.loop-place-test.false, c.loop-place.auto.place-end) in
    subst (λ n. c.loop-place.steps ≤ c.args.steps.now + count_by (λ row. is_locked facts.calendar row.0) (first_matches league gw n)) all c.loop-place.invariant.cost

pub returns-in_err-write_if_first-clause-cost : goal.returns-in_err-write_if_first-clause-cost
returns-in_err-write_if_first-clause-cost g c =
    let facts = c.args.seen.now.facts in
    let league = c.args.league.now in
    let gw = c.args.gameweek in
    let place = c.loop-place.place in
    let long = ap length c.order-order.ensures.value in
    let few : place + 1 ≤ length league.order = omega (arith, long, c.loop-place-test.true) in
    let read = place_read (λ row. is_locked facts.calendar row.0) league gw place c.args.steps.now c.loop-place.steps c.write_if_first.new.steps c.loop-place.invariant.cost c.write_if_first.ensures.cost in
    let most = grows (λ row. is_locked facts.calendar row.0) (first_matches league gw) (λ n. if_first (stands_first (length league.order) (gw - league.start) n) gw n) (place_more league gw) (place + 1) (length league.order) few in
    omega (arith, read, most)
