use Rattle.std.proofs.Common.{◌≡◌, ◌<◌, ◌∙◌, [], None, Some, ap, arith, get_or, length, sym}
use Rattle.std.specs.Option.{option_map}
use Rattle.rule_book.specs.declared.line.Line.{Line}
use Rattle.rule_book.specs.MatchFacts.{lines_of}
use Rattle.season_views.proofs.Lists.{read_again}
use Rattle.fixture_windows.specs.Scores.{score_with}
use Rattle.fixture_windows.specs.declared.score.Score.{Score}
use Rattle.fixture_windows.proofs.ListFacts.{place_below}
use Rattle.fixture_windows.proofs.RowFacts.{row_there, row_within, rows_past}
use Rattle.fixture_windows.proofs.ScoreFacts.{adds_few, both_scores, no_score, scores_less, scores_more}
use Rattle.fixture_windows.proofs.score.score_of.Goals as goal

pub score_with-requires-clause-home : goal.score_with-requires-clause-home
score_with-requires-clause-home g c =
    let low = place_below c.args.rows.now.players.now c.requires.rise c.loop-place.place c.player-item.result c.loop-place-test.true in
    omega (arith, low, c.player-item.is, c.get-number.ensures.value, c.loop-place.invariant.home)

pub score_with-requires-clause-away : goal.score_with-requires-clause-away
score_with-requires-clause-away g c =
    let low = place_below c.args.rows.now.players.now c.requires.rise c.loop-place.place c.player-item.result c.loop-place-test.true in
    omega (arith, low, c.player-item.is, c.get-number.ensures.value, c.loop-place.invariant.away)

pub returns-in_err-score-clause-home : goal.returns-in_err-score-clause-home
returns-in_err-score-clause-home g c =
    let facts = c.args.seen.now.facts in
    let fixture = c.args.fixture.now in
    let rows = c.args.rows.now in
    let m = c.requires in
    let i = c.loop-place.place in
    let none : Line = record { figures = [] } in
    let line : Line = get_or rows.lines.now i none in
    let player = c.player-item.result in
    let below : i < length rows.lines.now = omega (arith, m.paired, c.loop-place-test.true) in
    let there = row_there facts fixture.id rows.players.now rows.lines.now rows.bonuses.now m i player line c.loop-place-test.true c.player-item.is (read_again rows.lines.now i none below) in
    let within = row_within facts fixture.id rows.players.now rows.lines.now rows.bonuses.now m i c.loop-place-test.true in
    let fails : score_with facts fixture c.loop-place.score (player, line) ≡ None = sym c.score_with.ensures ∙ c.in_err-score.was in
    let unknown = scores_less facts fixture (lines_of facts.matches fixture.id) i (player, line) within there c.loop-place.score c.loop-place.invariant.so fails in
    ap (option_map (λ (score : Score). score.home)) c.from_residual.ensures ∙ (no_score facts fixture unknown).0

pub returns-in_err-score-clause-away : goal.returns-in_err-score-clause-away
returns-in_err-score-clause-away g c =
    let facts = c.args.seen.now.facts in
    let fixture = c.args.fixture.now in
    let rows = c.args.rows.now in
    let m = c.requires in
    let i = c.loop-place.place in
    let none : Line = record { figures = [] } in
    let line : Line = get_or rows.lines.now i none in
    let player = c.player-item.result in
    let below : i < length rows.lines.now = omega (arith, m.paired, c.loop-place-test.true) in
    let there = row_there facts fixture.id rows.players.now rows.lines.now rows.bonuses.now m i player line c.loop-place-test.true c.player-item.is (read_again rows.lines.now i none below) in
    let within = row_within facts fixture.id rows.players.now rows.lines.now rows.bonuses.now m i c.loop-place-test.true in
    let fails : score_with facts fixture c.loop-place.score (player, line) ≡ None = sym c.score_with.ensures ∙ c.in_err-score.was in
    let unknown = scores_less facts fixture (lines_of facts.matches fixture.id) i (player, line) within there c.loop-place.score c.loop-place.invariant.so fails in
    ap (option_map (λ (score : Score). score.away)) c.from_residual.ensures ∙ (no_score facts fixture unknown).1

pub loop-place-preserved : goal.loop-place-preserved
loop-place-preserved g c =
    let facts = c.args.seen.now.facts in
    let fixture = c.args.fixture.now in
    let rows = c.args.rows.now in
    let m = c.requires in
    let i = c.loop-place.place in
    let none : Line = record { figures = [] } in
    let line : Line = get_or rows.lines.now i none in
    let player = c.player-item.result in
    let old = c.loop-place.score in
    let new = c.in_ok-score.score in
    let below : i < length rows.lines.now = omega (arith, m.paired, c.loop-place-test.true) in
    let there = row_there facts fixture.id rows.players.now rows.lines.now rows.bonuses.now m i player line c.loop-place-test.true c.player-item.is (read_again rows.lines.now i none below) in
    let within = row_within facts fixture.id rows.players.now rows.lines.now rows.bonuses.now m i c.loop-place-test.true in
    let added : score_with facts fixture old (player, line) ≡ Some new = sym c.score_with.ensures ∙ c.in_ok-score.was in
    let lines = lines_of facts.matches fixture.id in
    let goals = m.ranges i none c.loop-place-test.true 2 (omega arith) (omega arith) in
    let own_goals = m.ranges i none c.loop-place-test.true 10 (omega arith) (omega arith) in
    let few = adds_few facts fixture lines i (player, line) within there old c.loop-place.invariant.so new added (omega (arith, goals)) (omega (arith, own_goals)) in
    record {
      so = scores_more facts fixture lines i (player, line) within there old c.loop-place.invariant.so new added;
      home = omega (arith, few.0, c.loop-place.invariant.home);
      away = omega (arith, few.1, c.loop-place.invariant.away);
    }

pub returns-clause-home : goal.returns-clause-home
returns-clause-home g c =
    let facts = c.args.seen.now.facts in
    let fixture = c.args.fixture.now in
    let rows = c.args.rows.now in
    let past = rows_past facts fixture.id rows.players.now rows.lines.now rows.bonuses.now c.requires c.loop-place.place c.loop-place-test.false in
    (both_scores facts fixture c.loop-place.score c.loop-place.place (sym c.has_facts.ensures ∙ c.if-not-has_facts.false) past c.loop-place.invariant.so).0

pub returns-clause-away : goal.returns-clause-away
returns-clause-away g c =
    let facts = c.args.seen.now.facts in
    let fixture = c.args.fixture.now in
    let rows = c.args.rows.now in
    let past = rows_past facts fixture.id rows.players.now rows.lines.now rows.bonuses.now c.requires c.loop-place.place c.loop-place-test.false in
    (both_scores facts fixture c.loop-place.score c.loop-place.place (sym c.has_facts.ensures ∙ c.if-not-has_facts.false) past c.loop-place.invariant.so).1
