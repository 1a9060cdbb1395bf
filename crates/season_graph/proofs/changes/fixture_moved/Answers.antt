use Rattle.season_nodes.specs.BookFacts.{facts_of}
use Rattle.season_nodes.specs.Held.{held}
use Rattle.season_graph.proofs.PlaceFacts.{place_follows, place_marks}
use Rattle.season_graph.proofs.changes.fixture_moved.Goals as goal

pub returns-clause-sound : goal.returns-clause-sound
returns-clause-sound c = λ old is_old is_new differ. place_follows old (facts_of c.args.books.now) is_old is_new c.args.fixture differ.differ (held c.args.cells.now) (held c.refresh_moved.new.cells) c.args.from c.args.to differ.from_there differ.to_there c.in_ok-refresh_moved.ensures

pub returns-clause-exact : goal.returns-clause-exact
returns-clause-exact c = λ old is_old is_new differ. place_marks old (facts_of c.args.books.now) is_old is_new c.args.fixture (differ.0).differ (held c.args.cells.now) (held c.refresh_moved.new.cells) c.args.from c.args.to (differ.0).from_there (differ.0).to_there c.in_ok-refresh_moved.ensures differ.1
