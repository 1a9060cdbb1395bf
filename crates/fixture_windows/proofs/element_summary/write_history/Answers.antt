use Rattle.std.proofs.Common.{◌∙◌, arith, flat_map, refl}
use Rattle.json_members.proofs.ListLemmas.{rest_of}
use Rattle.rule_book.specs.declared.line.Line.{Line}
use Rattle.rule_book.specs.declared.season.Fixture.{Fixture}
use Rattle.season_views.proofs.Written.{ended}
use Rattle.season_book.specs.ElementSummary.{beside_match, history_row}
use Rattle.season_views.specs.FixturesReads.{match_reads}
use Rattle.fixture_windows.proofs.WrittenRows.{flat_more, reads_beside}
use Rattle.fixture_windows.proofs.element_summary.write_history.Goals as goal

pub loop-fixture-preserved : goal.loop-fixture-preserved
loop-fixture-preserved g c =
    let facts = c.args.seen.now.facts in
    let p = c.args.player in
    let order = c.args.order.now in
    let i = c.loop-fixture.fixture-index in
    let fixture = c.fixture-item.result in
    let wrote = c.in_ok-write_if_played.ensures.value in
    let cost = c.write_if_played.ensures.cost in
    let left = reads_beside (beside_match facts p) (λ (row : Fixture × Line). match_reads facts row.0.id) order i fixture c.loop-fixture-test.true c.fixture-item.is in
    record {
      tokens = flat_more (history_row facts p) (beside_match facts p) order i fixture c.loop-fixture-test.true c.fixture-item.is wrote c.loop-fixture.invariant.tokens;
      before = wrote.before ∙ c.loop-fixture.invariant.before;
      cost = omega (arith, cost, left, c.loop-fixture.invariant.cost);
    }

pub returns-clause-value : goal.returns-clause-value
returns-clause-value g c =
    let facts = c.args.seen.now.facts in
    ended (λ rows. rest_of (history_row facts c.args.player) (flat_map (beside_match facts c.args.player) rows)) c.args.order.now c.loop-fixture.fixture-index refl c.loop-fixture-test.false c.end_array.ensures c.loop-fixture.invariant.tokens c.loop-fixture.invariant.before
