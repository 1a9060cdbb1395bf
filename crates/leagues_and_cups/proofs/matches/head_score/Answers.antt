use Rattle.std.proofs.Common.{ℤ, ◌∙◌, sym, ap, pos, arith, take, get_or}
use Rattle.std.proofs.lemmas.Int.{ints}
use Rattle.std.proofs.lemmas.List.{length-take-le}
use Rattle.std.proofs.lemmas.List.Elements.{All-get_or}
use Rattle.rule_book.specs.FigureRange.{IsWithin}
use Rattle.leagues_and_cups.specs.Scores.{with_match}
use Rattle.leagues_and_cups.proofs.MatchLemmas.{points_add_up, results_add_up}
use Rattle.leagues_and_cups.proofs.ScoreFacts.{one_match_more}
use Rattle.leagues_and_cups.proofs.matches.head_score.Goals as goal

pub with_match-score-requires-clause-few : goal.with_match-score-requires-clause-few
with_match-score-requires-clause-few c =
    let i = c.loop-played.played-index in
    let ms = c.args.matches.now in
    let all = results_add_up (take i ms) in
    let long = length-take-le i ms (omega (arith, c.loop-played-test.true)) in
    rw c.loop-played.invariant.score (omega (arith, all, long, c.requires.few, c.loop-played-test.true))

pub with_match-score-requires-clause-points : goal.with_match-score-requires-clause-points
with_match-score-requires-clause-points c =
    let i = c.loop-played.played-index in
    let ms = c.args.matches.now in
    let all = results_add_up (take i ms) in
    let points = points_add_up (take i ms) in
    let long = length-take-le i ms (omega (arith, c.loop-played-test.true)) in
    rw c.loop-played.invariant.score (omega (arith, all, points, long, c.requires.few, c.loop-played-test.true))

pub loop-played-preserved : goal.loop-played-preserved
loop-played-preserved c =
    let i = c.loop-played.played-index in
    let ms = c.args.matches.now in
    let near = All-get_or (λ (m : ℤ × ℤ). IsWithin 18000000 m.0) ms i (pos 0, pos 0) c.loop-played-test.true c.requires.near in
    let more = one_match_more ms i (pos 0, pos 0) c.loop-played-test.true in
    record {
      score = c.with_match-score.ensures ∙ ap (λ s. with_match s (get_or ms i (pos 0, pos 0))) c.loop-played.invariant.score ∙ sym more;
      low = rw c.with_match-score.ensures (omega (arith, ints, near, c.loop-played.invariant.low));
      high = rw c.with_match-score.ensures (omega (arith, ints, near, c.loop-played.invariant.high));
    }
