use Rattle.std.proofs.Common.{ℕ, arith}
use Rattle.std.specs.Option.{unwrap_or}
use Rattle.rule_book.specs.ById.{at_id}
use Rattle.rescore_graph.specs.States.{look, values_in}
use Rattle.season_nodes.specs.BookFacts.{facts_of}
use Rattle.season_nodes.specs.declared.nodes.Node.TheVariants as node
use Rattle.season_nodes.specs.declared.nodes.LineWorth.{LineWorth}
use Rattle.season_nodes.specs.Season.{bonuses_in, has_line, worth_in}
use Rattle.season_nodes.proofs.Lists.{gathered_more}
use Rattle.season_nodes.specs.NodeOrder.{node_cmp}
use Rattle.season_rules.proofs.worth.gameweek_figures.Goals as goal

pub loop-fixture-preserved : goal.loop-fixture-preserved
loop-fixture-preserved g c =
    let w : ℕ → LineWorth = λ f. worth_in (values_in (look node_cmp c.args.cells.now) (node.Line f c.args.player)) in
    let u : ℕ → ℕ = λ f. unwrap_or (at_id (bonuses_in (values_in (look node_cmp c.args.cells.now) (node.Bonus f))) c.args.player) 0 in
    let fs = c.standing-fixture-items.result.now in
    let f = c.fixture-item.result in
    record {
      value = gathered_more (has_line (facts_of c.args.books.now) c.args.player) w u fs c.loop-fixture.fixture-index f c.loop-fixture.figures c.with_fixture-figures.result
          c.loop-fixture-test.true c.fixture-item.is c.loop-fixture.invariant.value c.with_fixture-figures.ensures.value;
      modest = c.with_fixture-figures.ensures.modest c.loop-fixture.fixture-index c.loop-fixture.invariant.modest;
      cost = omega (arith, c.loop-fixture.invariant.cost, c.with_fixture-figures.ensures.cost);
    }
