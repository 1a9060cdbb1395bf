use Rattle.season_nodes.specs.BookFacts.{facts_of}
use Rattle.season_nodes.specs.Held.{held}
use Rattle.season_nodes.specs.NodeOrder.{node_cmp, node_exact, node_total}
use Rattle.season_nodes.specs.Season.{is_live}
use Rattle.season_graph.proofs.RefreshedFacts.{refreshed_put}
use Rattle.season_graph.proofs.refreshing.refresh_one.Goals as goal

pub returns : goal.returns
returns c = refreshed_put node_cmp node_total node_exact (is_live (facts_of c.args.books.now)) c.args.n.now (held c.args.cells.now) (held c.refresh.new.cells) c.in_ok-refresh.ensures
