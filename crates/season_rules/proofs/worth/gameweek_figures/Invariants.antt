use Rattle.std.proofs.Common.{◌≡◌, ◌≤◌, ◌+◌, ◌*◌, take}
use Rattle.std.specs.List.{filter}
use Rattle.std.specs.Option.{unwrap_or}
use Rattle.rule_book.specs.ById.{at_id}
use Rattle.rescore_graph.specs.States.{look, values_in}
use Rattle.season_nodes.specs.BookFacts.{facts_of}
use Rattle.season_nodes.specs.declared.nodes.Node.TheVariants as node
use Rattle.season_nodes.specs.Season.{AreModest, bonuses_in, gathered, has_line, worth_in}
use Rattle.season_nodes.specs.NodeOrder.{node_cmp}
use Rattle.season_rules.proofs.worth.gameweek_figures.Given as goal

abbrev pub invariant-loop-fixture : goal.invariant-loop-fixture
invariant-loop-fixture g l = record {
  value : l.figures ≡ gathered (λ f. worth_in (values_in (look node_cmp l.cells) (node.Line f l.player))) (λ f. unwrap_or (at_id (bonuses_in (values_in (look node_cmp l.cells) (node.Bonus f))) l.player) 0)
      (filter (has_line (facts_of l.books) l.player) (take l.fixture-index l.fixture-items));
  modest : AreModest l.fixture-index l.figures;
  cost : l.steps ≤ l.fn.steps + 2 * l.fixture-index;
}
