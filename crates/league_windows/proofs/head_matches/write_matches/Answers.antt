use Rattle.std.proofs.Common.{◌≡◌, ◌≤◌, ◌∙◌, ◌+◌, ◌-◌, ◌++◌, [], ◌∷◌, List, ap, arith, count_by, length, rules, subst, sym}
use Rattle.json.specs.Token.{Token}
use Rattle.rule_book.specs.Calendar.{is_locked}
use Rattle.season_book.specs.HeadMatches.{match_row, matches_in, matches_to}
use Rattle.league_windows.specs.RowTokens.{row_tokens}
use Rattle.league_windows.proofs.MatchesWritten.{grows, round_more, round_read, rounds_from}
use Rattle.league_windows.proofs.RowsWritten.{rows_ended, rows_more}
use Rattle.league_windows.proofs.head_matches.write_matches.Goals as goal

pub write_gameweek-requires : goal.write_gameweek-requires
write_gameweek-requires g c =
    let start = c.get-start.ensures.value ∙ c.start.ensures in record {
      kept = c.requires.kept;
      there = c.requires.there;
      since = omega (arith, start);
    }

pub loop-round-preserved : goal.loop-round-preserved
loop-round-preserved g c =
    let facts = c.args.seen.now.facts in
    let league = c.args.league.now in
    let round = c.loop-round.round in
    let start = c.get-start.ensures.value ∙ c.start.ensures in
    let base : List Token = c.args.out.now.tokens ++ Token.begin_array ∷ [] in
    record {
      tokens = λ entries are.
          let row = match_row facts entries c.args.id league in
          rows_more row base (rounds_from league league.start round) (matches_in league (c.get-start.result + round)) (c.in_ok-write_gameweek.ensures.value entries are)
          (c.loop-round.invariant.tokens entries are)
          ∙ ap (λ s. base ++ row_tokens row s) (ap (λ k. rounds_from league league.start round ++ matches_in league (k + round)) start ∙ sym (round_more league league.start round));
      before = λ entries are. (c.in_ok-write_gameweek.ensures.value entries are).before ∙ c.loop-round.invariant.before entries are;
      cost = round_read (λ row. is_locked facts.calendar row.0) league league.start round c.args.steps.now c.loop-round.steps c.write_gameweek.new.steps c.loop-round.invariant.cost
          (subst (λ k. c.write_gameweek.new.steps ≤ c.loop-round.steps + count_by (λ row. is_locked facts.calendar row.0) (matches_in league (k + round))) start c.write_gameweek.ensures.cost);
    }

pub returns-in_err-write_gameweek-clause-value : goal.returns-in_err-write_gameweek-clause-value
returns-in_err-write_gameweek-clause-value g c = λ entries are. record {
  tokens = search rules;
  before = (c.in_err-write_gameweek.ensures.value entries are).before ∙ c.loop-round.invariant.before entries are;
}

pub returns-in_err-write_gameweek-clause-cost : goal.returns-in_err-write_gameweek-clause-cost
returns-in_err-write_gameweek-clause-cost g c =
    let facts = c.args.seen.now.facts in
    let league = c.args.league.now in
    let round = c.loop-round.round in
    let start = c.get-start.ensures.value ∙ c.start.ensures in
    let n = length facts.calendar.deadlines in
    let weeks : c.gameweeks-gameweeks.result ≡ n = c.gameweeks-gameweeks.ensures.value ∙ ap (λ calendar. length calendar.deadlines) c.calendar.ensures in
    let few : round + 1 ≤ (n + 1) - league.start = omega (arith, weeks, start, c.loop-round-test.true, c.saturating_sub-count.ensures) in
    let read = round_read (λ row. is_locked facts.calendar row.0) league league.start round c.args.steps.now c.loop-round.steps c.write_gameweek.new.steps c.loop-round.invariant.cost
    (subst (λ k. c.write_gameweek.new.steps ≤ c.loop-round.steps + count_by (λ row. is_locked facts.calendar row.0) (matches_in league (k + round))) start c.write_gameweek.ensures.cost) in
    let most = grows (λ row. is_locked facts.calendar row.0) (rounds_from league league.start) (λ k. matches_in league (league.start + k)) (round_more league league.start) (round + 1) ((n + 1) - league.start) few in
    omega (arith, read, most)

pub returns-clause-value : goal.returns-clause-value
returns-clause-value g c = λ entries are.
    let facts = c.args.seen.now.facts in
    let league = c.args.league.now in
    let round = c.loop-round.round in
    let start = c.get-start.ensures.value ∙ c.start.ensures in
    let n = length facts.calendar.deadlines in
    let base : List Token = c.args.out.now.tokens ++ Token.begin_array ∷ [] in
    let row = match_row facts entries c.args.id league in
    let weeks : c.gameweeks-gameweeks.result ≡ n = c.gameweeks-gameweeks.ensures.value ∙ ap (λ calendar. length calendar.deadlines) c.calendar.ensures in
    let all : round ≡ (n + 1) - league.start = omega (arith, weeks, start, c.loop-round-test.false, c.loop-round.auto.round-end, c.saturating_sub-count.ensures) in
    rows_ended row (matches_to league n) c.end_array.ensures
    (c.loop-round.invariant.tokens entries are ∙ ap (λ k. base ++ row_tokens row (rounds_from league league.start k)) all) (c.loop-round.invariant.before entries are)

pub returns-clause-cost : goal.returns-clause-cost
returns-clause-cost g c =
    let facts = c.args.seen.now.facts in
    let league = c.args.league.now in
    let round = c.loop-round.round in
    let start = c.get-start.ensures.value ∙ c.start.ensures in
    let n = length facts.calendar.deadlines in
    let weeks : c.gameweeks-gameweeks.result ≡ n = c.gameweeks-gameweeks.ensures.value ∙ ap (λ calendar. length calendar.deadlines) c.calendar.ensures in
    let all : round ≡ (n + 1) - league.start = omega (arith, weeks, start, c.loop-round-test.false, c.loop-round.auto.round-end, c.saturating_sub-count.ensures) in
    subst (λ k. c.loop-round.steps ≤ c.args.steps.now + count_by (λ row. is_locked facts.calendar row.0) (rounds_from league league.start k)) all c.loop-round.invariant.cost
