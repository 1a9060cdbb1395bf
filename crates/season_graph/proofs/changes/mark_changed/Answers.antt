use Rattle.season_nodes.specs.BookFacts.{facts_of}
use Rattle.season_nodes.specs.Held.{held}
use Rattle.season_graph.proofs.MarkFacts.{mark_follows, mark_marks}
use Rattle.season_graph.proofs.changes.mark_changed.Goals as goal

pub returns-clause-sound : goal.returns-clause-sound
returns-clause-sound c = λ old is_old is_new differ. mark_follows old (facts_of c.args.books.now) is_old is_new c.args.fixture differ (held c.args.cells.now) (held c.refresh_mark.new.cells) c.in_ok-refresh_mark.ensures

pub returns-clause-exact : goal.returns-clause-exact
returns-clause-exact c = λ old is_old is_new differ. mark_marks old (facts_of c.args.books.now) is_old is_new c.args.fixture differ.0 (held c.args.cells.now) (held c.refresh_mark.new.cells) c.in_ok-refresh_mark.ensures differ.1
