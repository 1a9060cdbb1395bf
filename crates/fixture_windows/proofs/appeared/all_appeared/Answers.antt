use Rattle.std.proofs.Common.{◌∙◌, ◌<◌, [], ap, arith, get_or, length, map, sym}
use Rattle.std.proofs.lemmas.List.{take_all}
use Rattle.rule_book.specs.declared.line.Line.{Line}
use Rattle.rule_book.specs.MatchFacts.{lines_of}
use Rattle.rule_book.proofs.RankLemmas.{mapped_more}
use Rattle.season_views.proofs.Lists.{read_again}
use Rattle.fixture_windows.specs.Appeared.{appeared_of}
use Rattle.fixture_windows.proofs.RowFacts.{row_there, row_within, rows_past}
use Rattle.fixture_windows.proofs.appeared.all_appeared.Goals as goal

pub loop-place-preserved : goal.loop-place-preserved
loop-place-preserved g c =
    let facts = c.args.seen.now.facts in
    let fixture = c.args.fixture.now in
    let rows = c.args.rows.now in
    let m = c.requires in
    let i = c.loop-place.place in
    let none : Line = record { figures = [] } in
    let line : Line = get_or rows.lines.now i none in
    let player = c.player-item.result in
    let below : i < length rows.lines.now = omega (arith, m.paired, c.loop-place-test.true) in
    let there = row_there facts fixture.id rows.players.now rows.lines.now rows.bonuses.now m i player line c.loop-place-test.true c.player-item.is (read_again rows.lines.now i none below) in
    let within = row_within facts fixture.id rows.players.now rows.lines.now rows.bonuses.now m i c.loop-place-test.true in
    mapped_more (appeared_of facts fixture) (lines_of facts.matches fixture.id) i (player, line) c.one_appeared.result c.loop-place.all.items c.push.new.self.items within c.loop-place.invariant
    (c.one_appeared.ensures ∙ ap (appeared_of facts fixture) (sym there)) c.in_ok-push.ensures.items

pub returns : goal.returns
returns g c =
    let facts = c.args.seen.now.facts in
    let fixture = c.args.fixture.now in
    let rows = c.args.rows.now in
    let lines = lines_of facts.matches fixture.id in
    let past = rows_past facts fixture.id rows.players.now rows.lines.now rows.bonuses.now c.requires c.loop-place.place c.loop-place-test.false in
    c.loop-place.invariant ∙ ap (map (appeared_of facts fixture)) (take_all c.loop-place.place lines past)
