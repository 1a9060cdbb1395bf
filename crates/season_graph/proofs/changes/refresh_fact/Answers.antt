use Rattle.std.proofs.Common.{[], ◌∷◌, ◌∙◌, true, false}
use Rattle.rescore_graph.specs.States.{look}
use Rattle.rule_book.specs.Calendar.{stands_in}
use Rattle.season_nodes.specs.BookFacts.{facts_of}
use Rattle.season_nodes.specs.Season.{is_live, has_line}
use Rattle.season_graph.specs.Touched.{gameweek_beside}
use Rattle.season_nodes.specs.declared.nodes.Node.TheVariants as node
use Rattle.season_nodes.specs.NodeOrder.{node_cmp}
use Rattle.season_graph.proofs.ChangedFacts.{line_chosen, counted_some}
use Rattle.season_graph.proofs.RefreshedFacts.{refreshed_append}
use Rattle.season_graph.proofs.changes.refresh_fact.Goals as goal

pub returns-in_ok-refresh_presence : goal.returns-in_ok-refresh_presence
returns-in_ok-refresh_presence c =
    let b = facts_of c.args.books.now in
    let live = is_live b in
    let line = node.Line c.args.fixture c.args.player in
    let rest = node.Bonus c.args.fixture ∷ gameweek_beside c.args.player (stands_in b.calendar c.args.fixture) in
    let s = look node_cmp c.args.cells.now in
    line_chosen live line rest s (look node_cmp c.refresh_presence.new.cells) true c.is_some-had_line.result c.has_line.result (has_line b c.args.player c.args.fixture)
    (c.is_some-had_line.ensures ∙ counted_some c.evaluations.result (s line) c.evaluations.ensures) c.has_line.ensures c.if-had_line-has_line.true
    (refreshed_append live (line ∷ []) rest s (look node_cmp c.refresh_line.new.cells) (look node_cmp c.refresh_presence.new.cells) c.in_ok-refresh_line.ensures c.in_ok-refresh_presence.ensures)

pub returns-else-had_line-has_line : goal.returns-else-had_line-has_line
returns-else-had_line-has_line c =
    let b = facts_of c.args.books.now in
    let line = node.Line c.args.fixture c.args.player in
    let rest = node.Bonus c.args.fixture ∷ gameweek_beside c.args.player (stands_in b.calendar c.args.fixture) in
    let s = look node_cmp c.args.cells.now in
    line_chosen (is_live b) line rest s (look node_cmp c.refresh_line.new.cells) false c.is_some-had_line.result c.has_line.result (has_line b c.args.player c.args.fixture)
    (c.is_some-had_line.ensures ∙ counted_some c.evaluations.result (s line) c.evaluations.ensures) c.has_line.ensures c.if-had_line-has_line.false c.in_ok-refresh_line.ensures
