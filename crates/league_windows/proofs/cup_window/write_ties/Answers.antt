use Rattle.std.proofs.Common.{◌≡◌, ◌≤◌, ◌∙◌, ◌+◌, ◌/◌, ◌^◌, ◌++◌, [], ◌∷◌, List, ap, arith, length, nat_le, refl, rules, sym}
use Rattle.std.specs.List.{range_with_len}
use Rattle.json.specs.Token.{Token}
use Rattle.season_book.specs.LeagueViews.{side_in}
use Rattle.season_book.specs.CupWindow.{tie_row}
use Rattle.league_windows.specs.RowTokens.{row_tokens}
use Rattle.league_windows.proofs.RowsWritten.{one_row, range_one_more, rows_ended, rows_more}
use Rattle.league_windows.proofs.TiesRead.{some_ties_read, tie_read}
use Rattle.league_windows.proofs.cup_window.write_ties.Goals as goal

pub loop-tie-preserved : goal.loop-tie-preserved
loop-tie-preserved g c =
    let facts = c.args.seen.now.facts in
    let b = c.args.bracket.now in
    let tie = c.loop-tie.tie in
    let base : List Token = c.args.out.now.tokens ++ Token.begin_array ∷ [] in
    let at : 0 + tie ≡ tie = omega arith in
    record {
      tokens = λ entries are.
          let row = tie_row facts entries b c.args.before in
          rows_more row base (range_with_len 0 tie) (tie ∷ []) (one_row row tie (c.in_ok-write_tie_at.ensures.value entries are)) (c.loop-tie.invariant.tokens entries are)
          ∙ ap (λ s. base ++ row_tokens row s) (sym (range_one_more 0 tie tie at));
      before = λ entries are. (c.in_ok-write_tie_at.ensures.value entries are).before ∙ c.loop-tie.invariant.before entries are;
      cost = tie_read (nat_le (b.start + c.args.before) facts.calendar.locked) tie c.args.steps.now c.loop-tie.steps c.write_tie_at.new.steps c.loop-tie.invariant.cost c.write_tie_at.ensures.cost;
    }

pub returns-in_err-write_tie_at-clause-value : goal.returns-in_err-write_tie_at-clause-value
returns-in_err-write_tie_at-clause-value g c = λ entries are. record {
  tokens = search rules;
  before = (c.in_err-write_tie_at.ensures.value entries are).before ∙ c.loop-tie.invariant.before entries are;
}

pub returns-in_err-write_tie_at-clause-cost : goal.returns-in_err-write_tie_at-clause-cost
returns-in_err-write_tie_at-clause-cost g c = λ entries are.
    let facts = c.args.seen.now.facts in
    let b = c.args.bracket.now in
    let before = c.args.before in
    let tie = c.loop-tie.tie in
    let side = side_in facts entries in
    let few : tie + 1 ≤ length b.slots / 2 ^ (before + 1) = omega (arith, c.loop-tie-test.true, c.ties-tie-end.ensures) in
    some_ties_read b side facts.calendar.locked before (tie + 1) c.args.steps.now c.write_tie_at.new.steps (nat_le (b.start + before) facts.calendar.locked) refl few
    (c.rounds_follow.ensures.count b side (before + 1))
    (tie_read (nat_le (b.start + before) facts.calendar.locked) tie c.args.steps.now c.loop-tie.steps c.write_tie_at.new.steps c.loop-tie.invariant.cost c.write_tie_at.ensures.cost)

pub returns-clause-value : goal.returns-clause-value
returns-clause-value g c = λ entries are.
    let facts = c.args.seen.now.facts in
    let b = c.args.bracket.now in
    let before = c.args.before in
    let tie = c.loop-tie.tie in
    let base : List Token = c.args.out.now.tokens ++ Token.begin_array ∷ [] in
    let row = tie_row facts entries b before in
    let all : tie ≡ length b.slots / 2 ^ (before + 1) = omega (arith, c.loop-tie-test.false, c.loop-tie.auto.tie-end, c.ties-tie-end.ensures) in
    rows_ended row (range_with_len 0 (length b.slots / 2 ^ (before + 1))) c.end_array.ensures
    (c.loop-tie.invariant.tokens entries are ∙ ap (λ n. base ++ row_tokens row (range_with_len 0 n)) all) (c.loop-tie.invariant.before entries are)

pub returns-clause-cost : goal.returns-clause-cost
returns-clause-cost g c = λ entries are.
    let facts = c.args.seen.now.facts in
    let b = c.args.bracket.now in
    let before = c.args.before in
    let tie = c.loop-tie.tie in
    let side = side_in facts entries in
    let few : tie ≤ length b.slots / 2 ^ (before + 1) = omega (arith, c.loop-tie.auto.tie-end, c.ties-tie-end.ensures) in
    some_ties_read b side facts.calendar.locked before tie c.args.steps.now c.loop-tie.steps (nat_le (b.start + before) facts.calendar.locked) refl few
    (c.rounds_follow.ensures.count b side (before + 1)) c.loop-tie.invariant.cost
