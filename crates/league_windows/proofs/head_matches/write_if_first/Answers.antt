use Rattle.std.proofs.Common.{◌-◌, ◌∙◌, ℕ, [], ap, arith, if◌then◌else◌, length, nat_le, nat_lt, sym}
use Rattle.json_members.specs.Tokens.{tokens_of}
use Rattle.rule_book.specs.Opponents.{opponent_of}
use Rattle.season_views.proofs.Written.{retold}
use Rattle.season_book.specs.HeadMatches.{match_row, opponent_place, stands_first}
use Rattle.league_windows.proofs.LockedShown.{missed, passed}
use Rattle.league_windows.proofs.RowsWritten.{nothing_more}
use Rattle.league_windows.proofs.head_matches.write_if_first.Goals as goal

pub scores_of-played-requires : goal.scores_of-played-requires
scores_of-played-requires g c =
    let n = length c.args.league.now.order in
    let place = c.args.at.1 in
    let start = c.get-start.ensures.value ∙ c.start.ensures in
    let met = c.place_met-met.ensures ∙ ap (λ k. opponent_place n (opponent_of n (c.args.at.0 - k) place)) start in
    record {
      kept = c.requires.kept;
      there = c.requires.there;
      since = c.requires.since;
      within = c.requires.within;
      first = sym (ap (nat_lt place) met) ∙ sym c.is_first.ensures ∙ c.if-is_first.true;
    }

pub write_match-requires : goal.write_match-requires
write_match-requires g c =
    let n = length c.args.league.now.order in
    let start = c.get-start.ensures.value ∙ c.start.ensures in
    c.place_met-met.ensures ∙ ap (λ k. opponent_place n (opponent_of n (c.args.at.0 - k) c.args.at.1)) start

pub returns-then-is_first-clause-value : goal.returns-then-is_first-clause-value
returns-then-is_first-clause-value g c = λ entries are.
    let league = c.args.league.now in
    let n = length league.order in
    let at = c.args.at in
    let start = c.get-start.ensures.value ∙ c.start.ensures in
    let met = c.place_met-met.ensures ∙ ap (λ k. opponent_place n (opponent_of n (at.0 - k) at.1)) start in
    let first = sym (ap (nat_lt at.1) met) ∙ sym c.is_first.ensures ∙ c.if-is_first.true in
    retold (passed (stands_first n (at.0 - league.start) at.1) (tokens_of (match_row c.args.seen.now.facts entries c.args.id league at)) [] first)
    (c.write_match.ensures entries are (c.scores_of-played.ensures.value entries are))

pub returns-then-is_first-clause-cost : goal.returns-then-is_first-clause-cost
returns-then-is_first-clause-cost g c =
    let league = c.args.league.now in
    let n = length league.order in
    let at = c.args.at in
    let start = c.get-start.ensures.value ∙ c.start.ensures in
    let met = c.place_met-met.ensures ∙ ap (λ k. opponent_place n (opponent_of n (at.0 - k) at.1)) start in
    let first = sym (ap (nat_lt at.1) met) ∙ sym c.is_first.ensures ∙ c.if-is_first.true in
    let all = passed {X = ℕ} (stands_first n (at.0 - league.start) at.1) (if nat_le at.0 c.args.seen.now.facts.calendar.locked then 1 else 0) 0 first in
    let read = c.scores_of-played.ensures.cost in
    omega (arith, all, read)

pub returns-else-is_first-clause-value : goal.returns-else-is_first-clause-value
returns-else-is_first-clause-value g c = λ entries are.
    let league = c.args.league.now in
    let n = length league.order in
    let at = c.args.at in
    let start = c.get-start.ensures.value ∙ c.start.ensures in
    let met = c.place_met-met.ensures ∙ ap (λ k. opponent_place n (opponent_of n (at.0 - k) at.1)) start in
    let not_first = sym (ap (nat_lt at.1) met) ∙ sym c.is_first.ensures ∙ c.if-is_first.false in
    retold (missed (stands_first n (at.0 - league.start) at.1) (tokens_of (match_row c.args.seen.now.facts entries c.args.id league at)) [] not_first) (nothing_more c.args.out.now)
