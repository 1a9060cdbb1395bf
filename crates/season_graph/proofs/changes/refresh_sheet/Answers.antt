use Rattle.std.proofs.Common.{[], is_some, cond}
use Rattle.rescore_graph.specs.States.{look}
use Rattle.season_nodes.specs.BookFacts.{facts_of}
use Rattle.season_nodes.specs.Season.{is_live}
use Rattle.season_graph.specs.Touched.{lines_nodes, mark_nodes}
use Rattle.season_nodes.specs.declared.nodes.Node.TheVariants as node
use Rattle.season_nodes.specs.NodeOrder.{node_cmp}
use Rattle.season_graph.proofs.RefreshedFacts.{refreshed_append}
use Rattle.season_graph.proofs.changes.refresh_sheet.Goals as goal

pub returns : goal.returns
returns c =
    let d = facts_of c.args.books.now in
    let s = look node_cmp c.args.cells.now in
    refreshed_append (is_live d) (lines_nodes d (λ p. is_some (s (node.Line c.args.fixture p))) c.args.fixture c.args.players.now) (cond c.args.marked (mark_nodes d c.args.fixture) [])
    s (look node_cmp c.refresh_lines.new.cells) (look node_cmp c.refresh_mark_if.new.cells) c.in_ok-refresh_lines.ensures c.in_ok-refresh_mark_if.ensures
