use Rattle.season_nodes.specs.BookFacts.{facts_of}
use Rattle.season_nodes.specs.Held.{held}
use Rattle.season_graph.proofs.LeagueFacts.{league_follows, league_marks}
use Rattle.season_graph.proofs.changes.league_changed.Goals as goal

pub returns-clause-sound : goal.returns-clause-sound
returns-clause-sound c = λ old is_old is_new differ. league_follows old (facts_of c.args.books.now) is_old is_new c.args.league differ (held c.args.cells.now) (held c.refresh.new.cells) c.in_ok-refresh.ensures

pub returns-clause-exact : goal.returns-clause-exact
returns-clause-exact c = λ old is_old is_new differ. league_marks old (facts_of c.args.books.now) is_old is_new c.args.league differ (held c.args.cells.now) (held c.refresh.new.cells) c.in_ok-refresh.ensures
