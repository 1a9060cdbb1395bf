use Rattle.season_nodes.specs.BookFacts.{facts_of}
use Rattle.season_nodes.specs.Held.{held}
use Rattle.season_nodes.specs.Season.{is_live}
use Rattle.season_graph.specs.Touched.{moved_endings, moved_players}
use Rattle.season_graph.proofs.RefreshedFacts.{refreshed_append}
use Rattle.season_graph.proofs.changes.refresh_moved.Goals as goal

pub returns : goal.returns
returns c =
    let d = facts_of c.args.books.now in
    refreshed_append (is_live d) (moved_players d c.args.fixture c.args.from.now c.args.to.now) (moved_endings d c.args.fixture c.args.from.now c.args.to.now)
    (held c.args.cells.now) (held c.refresh_moved_players.new.cells) (held c.refresh_endings.new.cells) c.in_ok-refresh_moved_players.ensures c.in_ok-refresh_endings.ensures
